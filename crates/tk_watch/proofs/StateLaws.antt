-- The parts of a state's text, of equal numbers.
use Rattle.std.proofs.Common.{◌≡◌, ℕ}
use Rattle.tk_watch.specs.StateText.{counts_text, requests_text}

pub same_counts : (polls polls' taken taken' events pages pages' slots : ℕ) → polls ≡ polls' → taken ≡ taken' → pages ≡ pages'
    → counts_text polls taken events pages slots ≡ counts_text polls' taken' events pages' slots
same_counts polls polls' taken taken' events pages pages' slots p t g = rw (p, t, g)

pub same_requests : (enabled enabled' requested requested' operations operations' : ℕ) → enabled ≡ enabled' → requested ≡ requested' → operations ≡ operations'
    → requests_text enabled requested operations ≡ requests_text enabled' requested' operations'
same_requests enabled enabled' requested requested' operations operations' e r o = rw (e, r, o)
