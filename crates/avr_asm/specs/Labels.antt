-- Serves private functions: the labels as a map has them.
use Rattle.std.specs.Prelude.{◌≡◌, ℕ, List, if◌then◌else◌, Option, Some, bytes_eq}
use Rattle.std.specs.BTreeMap.{get_by}
use Rattle.std.specs.Ordering.{nat_cmp}
use Rattle.std.specs.Cmp.Lexicographic.{slice_cmp}
use Rattle.avr_asm.specs.declared.labels.Labels.{Labels}
use Rattle.avr_asm.specs.Addresses.{Label, address_of}

-- the address of a label
abbrev pub address_in : Labels → List ℕ → Option ℕ
address_in labels name = get_by (λ key. slice_cmp nat_cmp name key.now) labels.map

-- the address of q, with one label more
abbrev pub label_after : List ℕ → ℕ → List ℕ → Option ℕ → Option ℕ
label_after name address q before = if bytes_eq name q then Some address else before

-- the map has just the labels of a list
abbrev pub HasLabels : Labels → List Label → Type 0
HasLabels labels list = (name : List ℕ) → address_in labels name ≡ address_of list name
