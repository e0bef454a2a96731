-- Encodings from which characters are barred keep their laws.
use Rattle.std.proofs.Common.{◌≡◌, ℕ, ◌<◌, ◌≤◌, Bool, true, false, ◌==◌, ◌&&◌, nat_le, Option, None, List, []}
use Rattle.std.proofs.Common.{◌∷◌, length, refl, ap, ◌∙◌, sym, arith, eqb-true, if◌then◌else◌, inl, inr}
use Rattle.std.specs.Cmp.{first_so, second_so}
use Rattle.std.proofs.lemmas.Bool.{and_right, or_cases}
use Rattle.std.proofs.lemmas.Bool.Decides.{nat_tests}
use Rattle.enc_encoder.specs.declared.byte_lengths.ByteLengths.{ByteLengths}
use Rattle.enc_encoder.specs.EncoderRule.{EncoderRule, IsLawfulEncoderRule, AreAtMostFour}
use Rattle.enc_encoder.specs.Stateless.{WritesAscii, KeepsLengths, IsLawfulRepertoire}
use Rattle.enc_encoder.specs.Barring.{contains_char, is_barred, are_beyond_ascii, bytes_unless_barred, barring_rule}
use Rattle.enc_encoder.proofs.SizeLemmas.{size}
use Rattle.enc_encoder.proofs.StatelessLemmas.{of_references_is_ascii}

-- ASCII is not barred
not_barred : (b : List ℕ) (c : ℕ) → c < 0x80 → is_barred b c ≡ false
not_barred b c l =
    let low : nat_le 0x80 c ≡ false = grind (arith, nat_tests) in and_right _ _ low

few_if : (t : Bool) (x : Option (List ℕ)) → AreAtMostFour x → AreAtMostFour (if t then None else x)
few_if true x few = tt
few_if false x few = few

-- no character has more bytes
fewer_if : (t : Bool) (x : Option (List ℕ)) → size (if t then None else x) ≤ size x
fewer_if true x = omega arith
fewer_if false x = omega arith

pub fewer : (b : List ℕ) (bytes : ℕ → Option (List ℕ)) (c : ℕ)
    → size (bytes_unless_barred b bytes c) ≤ size (bytes c)
fewer b bytes c = fewer_if (is_barred b c) (bytes c)

pub except_writes_ascii : (b : List ℕ) (bytes : ℕ → Option (List ℕ)) → WritesAscii bytes
    → WritesAscii (bytes_unless_barred b bytes)
except_writes_ascii b bytes ascii c is_ascii = rw (not_barred b c is_ascii) (ascii c is_ascii)

pub except_keeps : (b : List ℕ) (lengths : ByteLengths) (bytes : ℕ → Option (List ℕ))
    → KeepsLengths lengths bytes → KeepsLengths lengths (bytes_unless_barred b bytes)
except_keeps b lengths bytes keeps_lengths = record {
  by_utf_8 = λ c. omega (arith, fewer b bytes c, keeps_lengths.by_utf_8 c);
  by_utf_16 = λ c. omega (arith, fewer b bytes c, keeps_lengths.by_utf_16 c);
}

pub except_is_lawful : (b : List ℕ) (lengths : ByteLengths) (bytes : ℕ → Option (List ℕ))
    → IsLawfulRepertoire lengths bytes → IsLawfulRepertoire lengths (bytes_unless_barred b bytes)
except_is_lawful b lengths bytes laws = record {
  ascii = except_writes_ascii b bytes laws.ascii;
  few = record { few = λ c. few_if (is_barred b c) (bytes c) (laws.few.few c) };
  lengths = except_keeps b lengths bytes laws.lengths;
}

-- of the rule of any encoding
pub barring_is_lawful : (b : List ℕ) (e : EncoderRule) → IsLawfulEncoderRule e
    → IsLawfulEncoderRule (barring_rule b e)
barring_is_lawful b e lawful = record {
  designates = lawful.designates;
  set_after_none = lawful.set_after_none;
  set_after_more = lawful.set_after_more;
  references =
      λ c is_reference. rw (not_barred b c (of_references_is_ascii c is_reference))
      (lawful.references c is_reference);
  one_set = lawful.one_set;
  few = λ c. few_if (is_barred b c) (e.bytes c) (lawful.few c);
}

-- a list that callers may name

-- a character of a list that has no ASCII is beyond ASCII
beyond : (b : List ℕ) (c : ℕ) → are_beyond_ascii b ≡ true → contains_char b c ≡ true
    → nat_le 0x80 c ≡ true
beyond [] c all_beyond among = cc
beyond (x ∷ b) c all_beyond among = elim (or_cases (x == c) (contains_char b c) among) [
  | inl here ↦
      let first_beyond = first_so (nat_le 0x80 x) (are_beyond_ascii b) all_beyond in
      grind (arith, nat_tests, here, first_beyond)
  | inr later ↦ beyond b c (second_so (nat_le 0x80 x) (are_beyond_ascii b) all_beyond) later
]

and_if : (s t : Bool) → (s ≡ true → t ≡ true) → (s && t) ≡ s
and_if true t follows = follows refl
and_if false t follows = refl

-- so such a list bars just the characters that stand in it
pub barred_is : (b : List ℕ) (c : ℕ) → are_beyond_ascii b ≡ true → is_barred b c ≡ contains_char b c
barred_is b c all_beyond = and_if (contains_char b c) (nat_le 0x80 c) (beyond b c all_beyond)

-- an empty list bars none

pub none_barred : (b : List ℕ) → true ≡ (length b == 0) → b ≡ []
none_barred [] h = refl
none_barred (x ∷ b) h = absurd (omega (arith, eqb-true (length (x ∷ b)) 0 (sym h)))

pub unlisted : (f f' : ℕ → Option (List ℕ)) (b : List ℕ) → b ≡ [] → f ≡ f'
    → f ≡ bytes_unless_barred b f'
unlisted f f' b none same = same ∙ ap (λ b. bytes_unless_barred b f') (sym none)
