-- Laws of drafts that are kept.
mod AlikeLaws
mod KeepLaws
