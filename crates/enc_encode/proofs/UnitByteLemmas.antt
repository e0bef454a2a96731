-- The byte of a character below U+0800 in a legacy single-byte encoding.
use Rattle.std.proofs.Common.{◌≡◌, ℕ, ◌+◌, ◌-◌, ◌<◌, ◌≤◌, Some, [], ◌∷◌, ap, ◌∙◌, sym, arith}
use Rattle.std.proofs.Common.{lt-ltb, le-ltb, inl, inr}
use Rattle.std.proofs.lemmas.Bool.{cond-true, cond-false, cases_lt}
use Rattle.enc_index.specs.declared.single_byte_index.SingleByteIndex.{SingleByteIndex}
use Rattle.enc_index_pointers.specs.Pointers.{single_byte_pointer}
use Rattle.enc_encoder.specs.Stateless.{bytes_of_pointer}
use Rattle.enc_encode.specs.SingleByte.{single_byte_of_pointer, single_byte_bytes}

pub unit_bytes : (index : SingleByteIndex) (c b : ℕ) → (c < 0x80 → b ≡ c)
    → (0x80 ≤ c → (0x80 ≤ b) × (single_byte_pointer index c ≡ Some (b - 0x80)))
    → single_byte_bytes index c ≡ Some (b ∷ [])
unit_bytes index c b ascii others = elim (cases_lt c 0x80) [
  | inl low ↦ cond-true _ _ _ (lt-ltb c 0x80 low) ∙ ap (λ x. Some (x ∷ [])) (sym (ascii low))
  | inr high ↦
      let found = others high in
      let back : b - 0x80 + 0x80 ≡ b = omega (arith, found.0) in
      cond-false _ _ _ (le-ltb c 0x80 high) ∙ ap (bytes_of_pointer single_byte_of_pointer) found.1
      ∙ ap (λ x. Some (x ∷ [])) back
]
