-- What stays in a region of SRAM, and outside it. m is a list of SRAM's bytes.
use Rattle.std.proofs.Common.{ℕ, ◌<◌, ◌≤◌, ◌⊎◌, List, arith, refl, ◌∙◌, inl, inr}
use Rattle.sram_layout.specs.Bytes.{first_address, with_byte}
use Rattle.sram_layout.specs.Regions.{Region, KeepsRegion, KeepsOutside}
use Rattle.sram_layout.proofs.Laws.{byte_other}

pub outside_same : {region : Region} (m : List ℕ) → KeepsOutside region m m
outside_same m = record { size = refl; rest = λ a from apart. refl }

pub outside_then : {region : Region} {m m' m'' : List ℕ} → KeepsOutside region m m' → KeepsOutside region m' m'' → KeepsOutside region m m''
outside_then first second = record {
  size = second.size ∙ first.size;
  rest = λ a from apart. second.rest a from apart ∙ first.rest a from apart;
}

-- a byte written outside a region
pub region_beside : (region : Region) (m : List ℕ) (a v : ℕ) → first_address ≤ a → first_address ≤ region.first → (a < region.first) ⊎ (region.behind ≤ a) → KeepsRegion region m (with_byte m a v)
region_beside region m a v from above apart b low high = byte_other m a b v from (omega arith) (λ same. elim apart [ inl left ↦ omega arith | inr right ↦ omega arith ])
