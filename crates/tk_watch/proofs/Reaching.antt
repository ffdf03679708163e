-- Which asks change memory.
use Rattle.std.proofs.Common.{◌≡◌, ℕ, refl}
use Rattle.avr_exec.specs.declared.ask.Ask.{Ask}
use Rattle.avr_exec.specs.declared.ask.Ask.TheVariants.{Store, PushByte, PushReturn}
use Rattle.tk_watch.specs.Touching.{IsTouched}

pub nothing_touched : (ask : Ask) (b : ℕ) → ((a v : ℕ) → ask ≡ Store a v → ⊥) → ((sp v : ℕ) → ask ≡ PushByte sp v → ⊥) → ((sp ret : ℕ) → ask ≡ PushReturn sp ret → ⊥) → IsTouched ask b → ⊥
nothing_touched (Store a v) b no_store no_push no_return is = no_store a v refl
nothing_touched (PushByte sp v) b no_store no_push no_return is = no_push sp v refl
nothing_touched (PushReturn sp ret) b no_store no_push no_return is = no_return sp ret refl
nothing_touched _ b no_store no_push no_return is = is
