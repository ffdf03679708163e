-- Each valid form is what its words mean: one line for each row of the table, by computing the row at all
-- its operands, where `Leading` has it not by arithmetic.
use Rattle.std.proofs.Common.{◌≡◌, ℕ, true, false, Some, MatchOption, IsTrue, refl}
use Rattle.std.specs.Bool.{⊤}
use Rattle.avr_isa.specs.declared.form.Form.{Form}
use Rattle.avr_isa.specs.declared.form.Form.TheVariants.{Nop, Movw, Muls, Product, Two, Cpse, Imm, Word, One, LoadOff, StoreOff, LoadAt, StoreAt, Lds, Sts, Pop, Push, Lpm0, Elpm0, Lpm, Elpm, InIo}
use Rattle.avr_isa.specs.declared.form.Form.TheVariants.{OutIo, Cbi, Sbic, Sbi, Sbis, Bld, Bst, Sbrc, Sbrs, Bset, Bclr, Brbs, Brbc, Rjmp, Rcall, Jmp, Call, Ijmp, Icall, Ret, Reti, Sleep, Break, Wdr}
use Rattle.avr_isa.specs.declared.form.Form.TheVariants.{Spm}
use Rattle.avr_isa.specs.declared.operation.ProductOp.TheVariants.{Mulsu}
use Rattle.avr_isa.specs.declared.operation.WordOp.TheVariants.{Adiw, Sbiw}
use Rattle.avr_isa.specs.declared.operation.OneOp.TheVariants.{Com}
use Rattle.avr_isa.specs.declared.operation.Ptr.TheVariants.{X}
use Rattle.avr_isa.specs.InstructionTable.{product_opcode, word_opcode}
use Rattle.avr_isa.specs.Instruction.{is_valid, fields_in_range}
use Rattle.avr_isa.specs.UndefinedPairs.{is_undefined}
use Rattle.avr_isa.specs.Encoding.{first_word, second_word}
use Rattle.avr_decode.specs.Decoding.{the_form, is_long, two_word_form, one_word_form, product_form, move_or_product_form, form_0000, form_0001, form_0010, displaced_form, load_form, store_form}
use Rattle.avr_decode.specs.Decoding.{plain_form, flag_or_plain_form, one_register_form, register_or_pair_form, io_bit_form, transfer_form, form_1001, io_form, register_bit_form, form_1111}
use Rattle.avr_decode.specs.Decoding.{defined_form, if_defined}
use Rattle.decode_laws.proofs.Bounds.{both_below, even_among, fields_fit, high_among, is_below, pair_among}
use Rattle.decode_laws.proofs.Leading.{brbs_complete, brbc_complete, cbi_complete, sbic_complete, sbi_complete, sbis_complete, load_displaced_complete, store_displaced_complete, cpse_complete}
use Rattle.decode_laws.proofs.Leading.{immediate_complete, in_complete, out_complete, rcall_complete, rjmp_complete, two_complete}
use Rattle.decode_laws.proofs.Tables.{by_one, by_places, by_two}

-- each valid form is what its first word means, before its second
pub complete : (f : Form) (w : ℕ) → IsTrue (is_valid f) → MatchOption (second_word f) ⊤ (λ a. w ≡ a) → the_form (first_word f) w ≡ Some f
unfolding the_form is_long two_word_form one_word_form product_form move_or_product_form form_0000 form_0001 form_0010 displaced_form load_form
    store_form plain_form flag_or_plain_form one_register_form register_or_pair_form io_bit_form transfer_form form_1001 io_form register_bit_form
    form_1111 defined_form if_defined first_word is_valid fields_in_range is_undefined second_word
complete Nop w valid second = refl
complete (Movw d r) w valid second = by_places 0 2 16 0 2 16 (λ d r. Movw d r) w refl d r (even_among d r (fields_fit (Movw d r) valid)) valid
complete (Muls d r) w valid second = by_places 16 1 16 16 1 16 (λ d r. Muls d r) w refl d r (high_among 16 0x0200 d r (fields_fit (Muls d r) valid)) valid
complete (Product Mulsu d r) w valid second = by_places 16 1 8 16 1 8 (λ d r. Product Mulsu d r) w refl d r (high_among 8 (product_opcode Mulsu) d r (fields_fit (Product Mulsu d r) valid)) valid
complete (Product op d r) w valid second = by_places 16 1 8 16 1 8 (λ d r. Product op d r) w refl d r (high_among 8 (product_opcode op) d r (fields_fit (Product op d r) valid)) valid
complete (Two op d r) w valid second = two_complete op d r w valid
complete (Cpse d r) w valid second = cpse_complete d r w valid
complete (Imm op d k) w valid second = immediate_complete op d k w valid
complete (Word Adiw p k) w valid second = by_places 24 2 4 0 1 64 (λ p k. Word Adiw p k) w refl p k (pair_among (word_opcode Adiw) p k (fields_fit (Word Adiw p k) valid)) valid
complete (Word Sbiw p k) w valid second = by_places 24 2 4 0 1 64 (λ p k. Word Sbiw p k) w refl p k (pair_among (word_opcode Sbiw) p k (fields_fit (Word Sbiw p k) valid)) valid
complete (One Com d) w valid second = by_one 32 (λ d. One Com d) w refl d (is_below 32 d) valid
complete (One op d) w valid second = by_one 32 (λ d. One op d) w refl d (is_below 32 d) valid
complete (LoadOff d base q) w valid second = load_displaced_complete base d q w valid
complete (StoreOff base q r) w valid second = store_displaced_complete base q r w valid
complete (LoadAt d X) w valid second = by_one 32 (λ d. LoadAt d X) w refl d (is_below 32 d) valid
complete (LoadAt d pointer) w valid second = by_one 32 (λ d. LoadAt d pointer) w refl d (is_below 32 d) valid
complete (StoreAt X r) w valid second = by_one 32 (λ r. StoreAt X r) w refl r (is_below 32 r) valid
complete (StoreAt pointer r) w valid second = by_one 32 (λ r. StoreAt pointer r) w refl r (is_below 32 r) valid
complete (Lds d a) w valid second = rw second (by_one 32 (λ d. Lds d a) a refl d (λ fits. (both_below 32 65536 d a fits).0) valid)
complete (Sts a r) w valid second = rw second (by_one 32 (λ r. Sts a r) a refl r (λ fits. (both_below 32 65536 r a fits).0) valid)
complete (Pop d) w valid second = by_one 32 (λ d. Pop d) w refl d (is_below 32 d) valid
complete (Push r) w valid second = by_one 32 (λ r. Push r) w refl r (is_below 32 r) valid
complete Lpm0 w valid second = refl
complete Elpm0 w valid second = refl
complete (Lpm d true) w valid second = by_one 32 (λ d. Lpm d true) w refl d (is_below 32 d) valid
complete (Lpm d false) w valid second = by_one 32 (λ d. Lpm d false) w refl d (is_below 32 d) valid
complete (Elpm d true) w valid second = by_one 32 (λ d. Elpm d true) w refl d (is_below 32 d) valid
complete (Elpm d false) w valid second = by_one 32 (λ d. Elpm d false) w refl d (is_below 32 d) valid
complete (InIo d a) w valid second = in_complete d a w valid
complete (OutIo a r) w valid second = out_complete a r w valid
complete (Cbi a b) w valid second = cbi_complete a b w valid
complete (Sbic a b) w valid second = sbic_complete a b w valid
complete (Sbi a b) w valid second = sbi_complete a b w valid
complete (Sbis a b) w valid second = sbis_complete a b w valid
complete (Bld r b) w valid second = by_two 32 8 (λ r b. Bld r b) w refl r b (both_below 32 8 r b) valid
complete (Bst r b) w valid second = by_two 32 8 (λ r b. Bst r b) w refl r b (both_below 32 8 r b) valid
complete (Sbrc r b) w valid second = by_two 32 8 (λ r b. Sbrc r b) w refl r b (both_below 32 8 r b) valid
complete (Sbrs r b) w valid second = by_two 32 8 (λ r b. Sbrs r b) w refl r b (both_below 32 8 r b) valid
complete (Bset s) w valid second = by_one 8 (λ s. Bset s) w refl s (is_below 8 s) valid
complete (Bclr s) w valid second = by_one 8 (λ s. Bclr s) w refl s (is_below 8 s) valid
complete (Brbs s k) w valid second = brbs_complete s k w valid
complete (Brbc s k) w valid second = brbc_complete s k w valid
complete (Rjmp k) w valid second = rjmp_complete k w valid
complete (Rcall k) w valid second = rcall_complete k w valid
complete (Jmp a) w valid second = rw second refl
complete (Call a) w valid second = rw second refl
complete Ijmp w valid second = refl
complete Icall w valid second = refl
complete Ret w valid second = refl
complete Reti w valid second = refl
complete Sleep w valid second = refl
complete Break w valid second = refl
complete Wdr w valid second = refl
complete Spm w valid second = refl
