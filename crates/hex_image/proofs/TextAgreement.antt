-- What is said line by line of a text is what the format says of all its lines at once.
use Rattle.std.proofs.Common.{◌≡◌, ◌≢◌, ℕ, ◌+◌, ◌*◌, ◌-◌, ◌==◌, Bool, true, false, cond, List, [], ◌∷◌, ◌++◌, length, get_or, take, refl, sym, ap, ap₂, ◌∙◌, subst, arith, inl, inr, Some, None, Option}
use Rattle.std.specs.Prelude.{◌⊎◌, AllPairs, flat_map, unwrap_or}
use Rattle.std.specs.List.{concat, enumerate_from, last_or, list_any}
use Rattle.std.proofs.lemmas.Bool.{cases_lt, eqb-true, false_from_ne_true}
use Rattle.std.proofs.lemmas.Grind.{flat_map-append}
use Rattle.std.proofs.lemmas.List.{append-nil, append_assoc, get_or-append_right, get_or_append_left, get_or_at, get_or_default, length-append}
use Rattle.std.proofs.lemmas.List.Elements.{All-nil, All-push}
use Rattle.text_lines.specs.Lines.{lines_of, pieces_of}
use Rattle.text_lines.specs.Faults.{after_lines, first_fault}
use Rattle.text_lines.proofs.FaultLaws.{after_both, fault_behind}
use Rattle.hex_image.specs.declared.fault.HexFault.{HexFault}
use Rattle.hex_image.specs.declared.fault.HexFault.TheVariants.{NoEnd}
use Rattle.hex_image.specs.Lines.{address_in, base_behind, bytes_of, content_in, data_in, is_end, kind_in, word_in}
use Rattle.hex_image.specs.Places.{Cell, Known, after_line, cells_at, extent, image_of_cells, nothing}
use Rattle.hex_image.specs.HexText.{HexText, fault_at, hex_fault, lines_read}
use Rattle.hex_image.specs.GrammarLaw.{AreBeforeEnd, HasFirst, HasImage, IsBeforeEnd, IsFaulty, IsRecord, base_after, base_set_by, cells_behind, cells_of}
use Rattle.hex_image.proofs.LawLemmas.{never_both, same_fault, same_image}
use Rattle.hex_image.proofs.LineAgreement.{AreApart, AreNew, line_sound, row_apart, sound_line, record_sound}
use Rattle.hex_image.proofs.LineLemmas.{empty_bytes, of_kind, quiet_fault}
use Rattle.hex_image.proofs.PlaceLemmas.{extent-append}
use Rattle.hex_image.proofs.TextLemmas.{AreBefore, are_all, behind, fault_found, fault_past}

-- ---- bases, and what lines give

last_of : (found : Option ℕ) (xs : List ℕ) (x : ℕ) → last_or found (xs ++ x ∷ []) ≡ Some x
last_of found [] x = refl
last_of found (y ∷ xs) x = last_of (Some y) xs x

base_by : (segment linear : Bool) (v w : ℕ) (set : List ℕ)
    → cond segment v (cond linear w (unwrap_or (last_or None set) 0)) ≡ unwrap_or (last_or None (set ++ (cond segment (v ∷ []) (cond linear (w ∷ []) []) ++ []))) 0
base_by true linear v w set = sym (ap (λ o. unwrap_or o 0) (last_of None set v))
base_by false true v w set = sym (ap (λ o. unwrap_or o 0) (last_of None set w))
base_by false false v w set = ap (λ z. unwrap_or (last_or None z) 0) (sym (append-nil set))

base_next : (before : List (List ℕ)) (line : List ℕ) → base_behind (base_after before) line ≡ base_after (before ++ line ∷ [])
base_next before line =
    let kind = kind_in (bytes_of line) in
    let word = word_in (content_in (bytes_of line)) in
    base_by (kind == 2) (kind == 4) (16 * word) (65536 * word) (flat_map base_set_by before) ∙ sym (ap (λ z. unwrap_or (last_or None z) 0) (flat_map-append base_set_by before (line ∷ [])))

cells_both : (before lines others : List (List ℕ)) → cells_behind before (lines ++ others) ≡ cells_behind before lines ++ cells_behind (before ++ lines) others
cells_both before [] others = ap (λ z. cells_behind z others) (sym (append-nil before))
cells_both before (line ∷ lines) others =
    let here = cells_at (base_after before) line in
    ap (λ z. here ++ z) (cells_both (before ++ line ∷ []) lines others)
    ∙ sym (append_assoc here (cells_behind (before ++ line ∷ []) lines) (cells_behind ((before ++ line ∷ []) ++ lines) others))
    ∙ ap (λ z. (here ++ cells_behind (before ++ line ∷ []) lines) ++ cells_behind z others) (append_assoc before (line ∷ []) lines)

cells_next : (before : List (List ℕ)) (line : List ℕ) → cells_of (before ++ line ∷ []) ≡ cells_of before ++ cells_at (base_after before) line
cells_next before line = cells_both [] before (line ∷ []) ∙ ap (λ z. cells_of before ++ z) (append-nil (cells_at (base_after before) line))

-- what is known behind some lines
abbrev known_of : List (List ℕ) → Known
known_of before = record { base = base_after before; cells = cells_of before }

known_next : (before : List (List ℕ)) (line : List ℕ) → after_line (known_of before) line ≡ known_of (before ++ line ∷ [])
known_next before line = ap₂ (λ b c. record { base = b; cells = c }) (base_next before line) (sym (cells_next before line))

known_from : (before lines : List (List ℕ)) → after_lines after_line (known_of before) lines ≡ known_of (before ++ lines)
known_from before [] = ap known_of (sym (append-nil before))
known_from before (line ∷ lines) =
    ap (λ k. after_lines after_line k lines) (known_next before line) ∙ known_from (before ++ line ∷ []) lines ∙ ap known_of (append_assoc before (line ∷ []) lines)

known_is : (lines : List (List ℕ)) → behind lines ≡ known_of lines
known_is lines = known_from [] lines

-- ---- different places of all lines

apart_both : (cells others : List Cell) → AllPairs AreApart cells → AllPairs AreApart others → AreNew cells others → AllPairs AreApart (cells ++ others)
apart_both cells others first second new i j d less below =
    let long = length-append cells others in
    elim (cases_lt j (length cells)) [
      | inl inside ↦ rw (get_or_append_left cells others d i (omega arith), get_or_append_left cells others d j inside) (first i j d less inside)
      | inr beyond ↦
          let k = j - length cells in
          let right : get_or (cells ++ others) j d ≡ get_or others k d = get_or-append_right cells others (length cells) j d refl beyond in
          elim (cases_lt i (length cells)) [
            | inl inside ↦ rw (get_or_append_left cells others d i inside, right) (new k d (omega (arith, long, below, beyond)) i d inside)
            | inr later ↦ rw (get_or-append_right cells others (length cells) i d refl later, right) (second (i - length cells) k d (omega (arith, less, later)) (omega (arith, long, below, beyond)))
          ]
    ]

apart_front : (cells others : List Cell) → AllPairs AreApart (cells ++ others) → AllPairs AreApart cells
apart_front cells others all i j d less below =
    rw (sym (get_or_append_left cells others d i (omega arith)), sym (get_or_append_left cells others d j below)) (all i j d less (omega (arith, length-append cells others)))

apart_new : (cells others : List Cell) → AllPairs AreApart (cells ++ others) → AreNew cells others
apart_new cells others all k d below i e inside =
    let right : get_or (cells ++ others) (length cells + k) d ≡ get_or others k d =
    get_or-append_right cells others (length cells) (length cells + k) d refl (omega arith) ∙ ap (λ z. get_or others z d) (omega arith) in
    let left : get_or (cells ++ others) i d ≡ get_or cells i d = get_or_append_left cells others d i inside in
    let same : get_or cells i d ≡ get_or cells i e = get_or_default cells i d e inside in
    rw (sym right, sym same, sym left) (all i (length cells + k) d (omega arith) (omega (arith, length-append cells others)))

-- ---- lines before the end record's

none_before : AreBeforeEnd []
none_before = record { forms = All-nil IsBeforeEnd; different = λ i j d less below. absurd (omega (arith, below)); small = omega arith }

-- an empty line gives nothing, and ends nothing
empty_kind : kind_in (bytes_of []) ≡ 0
empty_kind = ap kind_in empty_bytes

empty_cells : (from : ℕ) → cells_at from [] ≡ []
empty_cells from = ap (enumerate_from (from + address_in (bytes_of []))) ((of_kind [] 0 empty_kind).gives ∙ ap content_in empty_bytes)

-- one line more
more_before : (before : List (List ℕ)) (line : List ℕ) → AreBeforeEnd before → fault_at (known_of before) line ≡ None → is_end line ≡ false → AreBeforeEnd (before ++ line ∷ [])
more_before before [] are none other =
    let same : cells_of (before ++ [] ∷ []) ≡ cells_of before = cells_next before [] ∙ ap (λ z. cells_of before ++ z) (empty_cells (base_after before)) ∙ append-nil (cells_of before) in
    record { forms = All-push IsBeforeEnd before [] are.forms (inl refl); different = rw same are.different; small = rw same are.small }
more_before before (byte ∷ rest) are none other =
    let line = byte ∷ rest in
    let is = sound_line (known_of before) line (λ e. cc e) none in
    let more = cells_at (base_after before) line in
    let unended : kind_in (bytes_of line) ≢ 1 = λ one. let last : is_end line ≡ true = ap (λ k. k == 1) one in absurd (cc) in
    record {
      forms = All-push IsBeforeEnd before line are.forms (inr (is.form, unended, is.fits));
      different = rw (cells_next before line) (apart_both (cells_of before) more are.different (row_apart (base_after before + address_in (bytes_of line)) (data_in line)) is.new);
      small = omega (arith, ap extent (cells_next before line), extent-append (cells_of before) more, are.small, is.small);
    }

-- lines that stand so have no fault, and neither is one the end record's
front_of : (before lines : List (List ℕ)) → AreBeforeEnd (before ++ lines) → AreBeforeEnd before
front_of before lines are =
    let whole = cells_both [] before lines in
    let more = cells_behind before lines in
    record {
      forms = λ k d below. subst IsBeforeEnd (get_or_append_left before lines d k below) (are.forms k d (omega (arith, length-append before lines)));
      different = apart_front (cells_of before) more (rw whole at are.different);
      small = omega (arith, ap extent whole, extent-append (cells_of before) more, are.small);
    }

last_before : (before : List (List ℕ)) (line : List ℕ) → AreBeforeEnd (before ++ line ∷ []) → (form : IsBeforeEnd line) → (fault_at (known_of before) line ≡ None) × (is_end line ≡ false)
last_before before line are (inl empty) = (ap (fault_at (known_of before)) empty, ap is_end empty ∙ (of_kind [] 0 empty_kind).ends)
last_before before line are (inr (form, unended, fits)) =
    let whole = cells_next before line in
    let more = cells_at (base_after before) line in
    let some : line ≢ [] = λ empty. cc (sym form.colon ∙ empty) in (
      line_sound (known_of before) line some (record {
        form = form;
        fits = fits;
        new = apart_new (cells_of before) more (rw whole at are.different);
        small = omega (arith, ap extent whole, extent-append (cells_of before) more, are.small);
      }),
      false_from_ne_true (is_end line) (λ last. unended (eqb-true (kind_in (bytes_of line)) 1 last)),
    )

sound_from : (before lines : List (List ℕ)) (number : ℕ) → AreBeforeEnd (before ++ lines) → (first_fault fault_at after_line number (known_of before) lines ≡ None) × (list_any is_end lines ≡ false)
sound_from before [] number are = (refl, refl)
sound_from before (line ∷ lines) number are =
    let whole : before ++ line ∷ lines ≡ (before ++ line ∷ []) ++ lines = sym (append_assoc before (line ∷ []) lines) in
    let all : AreBeforeEnd ((before ++ line ∷ []) ++ lines) = rw whole at are in
    let form : IsBeforeEnd line = subst IsBeforeEnd (get_or_at before line lines line (length before) refl) (are.forms (length before) line (omega (arith, length-append before (line ∷ lines)))) in
    let here = last_before before line (front_of (before ++ line ∷ []) lines all) form in
    let later = sound_from (before ++ line ∷ []) lines (number + 1) all in (
      fault_behind fault_at after_line number (known_of before) line (line ∷ lines) lines refl here.0 ∙ ap (λ k. first_fault fault_at after_line (number + 1) k lines) (known_next before line)
          ∙ later.0,
      rw (here.1, later.1) refl,
    )

are_before : (before : List (List ℕ)) → AreBeforeEnd before → AreBefore before
are_before before are =
    let both = sound_from [] before 1 are in
    record { sound = both.0; unended = both.1 }

-- ---- texts

-- the end record is a line without a fault that gives nothing
record IsLast (known : Known) (line : List ℕ) : Type 0 where
  sound : fault_at known line ≡ None
  last : is_end line ≡ true
  gives : (from : ℕ) → cells_at from line ≡ []

last_line : (known : Known) (line : List ℕ) → IsRecord line → kind_in (bytes_of line) ≡ 1 → IsLast known line
last_line known line form one =
    let of = of_kind line 1 one in
    record { sound = quiet_fault known line (record_sound line form) of.gives; last = of.ends; gives = λ from. ap (enumerate_from (from + address_in (bytes_of line))) of.gives }

pub image_to : (text words : List ℕ) (position : ℕ) → HasImage text words position → HexText text words position
image_to text words position is =
    let it = last_line (behind is.before) is.line is.ends.0 is.ends.1 in
    let all = are_all text is.before is.rest is.line is.cut (are_before is.before is.sound) it.sound it.last in
    let cells : (behind (lines_read text)).cells ≡ cells_of is.before =
    ap (λ z. (behind z).cells) all.lines ∙ ap (λ (k : Known). k.cells) (after_both fault_at after_line nothing is.before (is.line ∷ []))
    ∙ ap (λ z. (behind is.before).cells ++ z) (it.gives (behind is.before).base) ∙ append-nil (behind is.before).cells ∙ ap (λ (k : Known). k.cells) (known_is is.before) in
    record {
      sound = all.sound;
      image = is.image ∙ ap image_of_cells (sym cells);
      cut = is.position_is ∙ ap (λ n. length (concat (take n (pieces_of text)))) (sym all.number);
    }

faulty_by : (text : List ℕ) (number : ℕ) (fault : HexFault) (before rest : List (List ℕ)) → lines_of text ≡ before ++ rest → number ≡ length before + 1 → AreBeforeEnd before
    → HasFirst before rest fault → hex_fault text ≡ Some (number, fault)
faulty_by text number fault before [] cut number_is are first = fault_past text before cut (are_before before are) ∙ ap₂ (λ n f. Some (n, f)) (sym number_is) (sym first)
faulty_by text number fault before (line ∷ rest) cut number_is are first =
    fault_found text before rest line fault cut (are_before before are) (ap (λ k. fault_at k line) (known_is before) ∙ first) ∙ ap (λ n. Some (n, fault)) (sym number_is)

pub faulty_to : (text : List ℕ) (number : ℕ) (fault : HexFault) → IsFaulty text number fault → hex_fault text ≡ Some (number, fault)
faulty_to text number fault is = faulty_by text number fault is.before is.rest is.cut is.number_is is.sound is.first

-- each text has an image or a first fault, found line by line
abbrev IsEither : List ℕ → Type 0
IsEither text = ((words : List ℕ) × (position : ℕ) × HasImage text words position) ⊎ ((number : ℕ) × (fault : HexFault) × IsFaulty text number fault)

ends_at : (text : List ℕ) (before rest : List (List ℕ)) (line : List ℕ) → lines_of text ≡ before ++ line ∷ rest → AreBeforeEnd before → fault_at (known_of before) line ≡ None → is_end line ≡ true
    → IsEither text
ends_at text before rest [] cut are none last = let other : is_end [] ≡ false = (of_kind [] 0 empty_kind).ends in absurd (cc)
ends_at text before rest (byte ∷ more) cut are none last =
    let line = byte ∷ more in
    inl (
      image_of_cells (cells_of before),
      length (concat (take (length before + 1) (pieces_of text))),
      record {
        before = before;
        line = line;
        rest = rest;
        cut = cut;
        sound = are;
        ends = ((sound_line (known_of before) line (λ e. cc e) none).form, eqb-true (kind_in (bytes_of line)) 1 last);
        image = refl;
        position_is = refl;
      },
    )

either_by : (text : List ℕ) (before lines : List (List ℕ)) (line : List ℕ) (found : Option HexFault) (ends : Bool) → lines_of text ≡ before ++ line ∷ lines → AreBeforeEnd before
    → fault_at (known_of before) line ≡ found → is_end line ≡ ends
    → ((AreBeforeEnd (before ++ line ∷ [])) → IsEither text) → IsEither text
either_by text before lines line (Some fault) ends cut are bad last more =
    inr (length before + 1, fault, record { before = before; rest = line ∷ lines; cut = cut; number_is = refl; sound = are; first = bad })
either_by text before lines line None true cut are none last more = ends_at text before lines line cut are none last
either_by text before lines line None false cut are none last more = more (more_before before line are none last)

either_from : (text : List ℕ) (before lines : List (List ℕ)) → lines_of text ≡ before ++ lines → AreBeforeEnd before → IsEither text
either_from text before [] cut are = inr (length before + 1, NoEnd, record { before = before; rest = []; cut = cut; number_is = refl; sound = are; first = refl })
either_from text before (line ∷ lines) cut are =
    either_by text before lines line (fault_at (known_of before) line) (is_end line) cut are refl refl
    (either_from text (before ++ line ∷ []) lines (cut ∙ sym (append_assoc before (line ∷ []) lines)))

pub image_from : (text words : List ℕ) (position : ℕ) → HexText text words position → HasImage text words position
image_from text words position is = elim (either_from text [] (lines_of text) refl none_before) [
  | inl image ↦
      let same = same_image text image.0 words image.1 position (image_to text image.0 image.1 image.2) is in
      subst (HasImage text words) same.1 (subst (λ w. HasImage text w image.1) same.0 image.2)
  | inr bad ↦ absurd (never_both text words position bad.0 bad.1 is (faulty_to text bad.0 bad.1 bad.2))
]

pub faulty_from : (text : List ℕ) (number : ℕ) (fault : HexFault) → hex_fault text ≡ Some (number, fault) → IsFaulty text number fault
faulty_from text number fault is = elim (either_from text [] (lines_of text) refl none_before) [
  | inl image ↦ absurd (never_both text image.0 image.1 number fault (image_to text image.0 image.1 image.2) is)
  | inr bad ↦
      let same = same_fault text bad.0 number bad.1 fault (faulty_to text bad.0 bad.1 bad.2) is in
      subst (IsFaulty text number) same.1 (subst (λ n. IsFaulty text n bad.1) same.0 bad.2)
]
