-- What is left of a loop of the prescan at a position.
use Rattle.std.proofs.Common.{◌≡◌, ℕ, zero, suc, ◌≤◌, ◌<◌, List, [], ◌∷◌, length, Some, None, refl}
use Rattle.std.proofs.Common.{sym, ap, ◌∙◌, arith}
use Rattle.enc_stream.specs.declared.encoding.Encoding.{Encoding}
use Rattle.enc_sniff.specs.declared.meta.Meta.{Meta}
use Rattle.enc_sniff.specs.Attributes.{Attribute, get_attribute}
use Rattle.enc_sniff.specs.Meta.{with_attribute, fresh_meta}
use Rattle.enc_sniff.specs.Html.{after_attribute, attributes, tag_attributes, returns, next_byte}
use Rattle.enc_sniff.specs.Html.{turn, after_turn, loop, markup_encoding}

-- the attributes from this position on, with these variables, come to those of the tag
pub record AttributesLeft (bytes : List ℕ) (m : Meta) (rest : List ℕ) : Type 0 where
  pub turns : ℕ
  pub enough : length rest ≤ turns
  pub within : length rest ≤ length bytes
  pub same : attributes turns m rest ≡ tag_attributes bytes

-- all of them are left at the start
pub first_attribute : (bytes : List ℕ) → AttributesLeft bytes fresh_meta bytes
first_attribute bytes =
    record { turns = length bytes; enough = omega arith; within = omega arith; same = refl }

-- those after an attribute
pub next_attribute :
    {bytes : List ℕ} {m : Meta} {rest : List ℕ} {a : Attribute} {s : List ℕ}
    → AttributesLeft bytes m rest → get_attribute rest ≡ Some (Some a, s)
    → length s < length rest → AttributesLeft bytes (with_attribute m a) s
next_attribute {bytes = bytes} {m = m} {rest = rest} {a = a} {s = s} left found shorter =
    by_turns left.turns left.enough left.same
  where
    by_turns :
        (n : ℕ) → length rest ≤ n → attributes n m rest ≡ tag_attributes bytes
        → AttributesLeft bytes (with_attribute m a) s
    by_turns zero enough same = absurd (omega arith)
    by_turns (suc n) enough same =
        record {
          turns = n;
          enough = omega arith;
          within = omega (arith, left.within);
          same = sym (ap (after_attribute (attributes n) m) found) ∙ same;
        }

-- none is left at the end of the tag
pub last_attribute :
    {bytes : List ℕ} {m : Meta} {rest s : List ℕ}
    → AttributesLeft bytes m rest → get_attribute rest ≡ Some (None, s)
    → Some (m, s) ≡ tag_attributes bytes
last_attribute {bytes = bytes} {m = m} {rest = rest} {s = s} left found =
    by_turns left.turns rest left.enough found left.same
  where
    by_turns :
        (n : ℕ) (rest : List ℕ) → length rest ≤ n → get_attribute rest ≡ Some (None, s)
        → attributes n m rest ≡ tag_attributes bytes → Some (m, s) ≡ tag_attributes bytes
    by_turns zero [] enough found same = absurd (cc)
    by_turns zero (b ∷ rest) enough found same = absurd (omega arith)
    by_turns (suc n) rest enough found same =
        sym (ap (after_attribute (attributes n) m) found) ∙ same

-- the bytes run out
pub no_attribute :
    {bytes : List ℕ} {m : Meta} {rest : List ℕ}
    → AttributesLeft bytes m rest → get_attribute rest ≡ None
    → None ≡ tag_attributes bytes
no_attribute {bytes = bytes} {m = m} {rest = rest} left found =
    by_turns left.turns left.same
  where
    by_turns :
        (n : ℕ) → attributes n m rest ≡ tag_attributes bytes → None ≡ tag_attributes bytes
    by_turns zero same = same
    by_turns (suc n) same = sym (ap (after_attribute (attributes n) m) found) ∙ same

-- the markup from this position on comes to all of it
pub record MarkupLeft (bytes rest : List ℕ) : Type 0 where
  pub turns : ℕ
  pub enough : length rest ≤ turns
  pub same : loop turns rest ≡ markup_encoding bytes

-- all of it is left at the start
pub first_turn : (bytes : List ℕ) → MarkupLeft bytes bytes
first_turn bytes = record { turns = length bytes; enough = omega arith; same = refl }

-- the markup after a turn
pub next_turn :
    {bytes rest s : List ℕ}
    → MarkupLeft bytes rest → turn rest ≡ next_byte s → length s < length rest
    → MarkupLeft bytes s
next_turn {bytes = bytes} {rest = rest} {s = s} left is_next shorter =
    by_turns left.turns rest left.enough left.same is_next shorter
  where
    by_turns :
        (n : ℕ) (rest : List ℕ) → length rest ≤ n → loop n rest ≡ markup_encoding bytes
        → turn rest ≡ next_byte s → length s < length rest → MarkupLeft bytes s
    by_turns zero rest enough same is_next shorter = absurd (omega arith)
    by_turns (suc n) [] enough same is_next shorter = absurd (omega arith)
    by_turns (suc n) (b ∷ rest) enough same is_next shorter =
        record {
          turns = n;
          enough = omega arith;
          same = sym (ap (after_turn (loop n)) is_next) ∙ same;
        }

-- the turn that returns an encoding
pub last_turn :
    {bytes rest : List ℕ} {e : Encoding}
    → MarkupLeft bytes rest → 0 < length rest → turn rest ≡ returns e
    → Some e ≡ markup_encoding bytes
last_turn {bytes = bytes} {rest = rest} {e = e} left some is_last =
    by_turns left.turns rest left.enough left.same is_last some
  where
    by_turns :
        (n : ℕ) (rest : List ℕ) → length rest ≤ n → loop n rest ≡ markup_encoding bytes
        → turn rest ≡ returns e → 0 < length rest → Some e ≡ markup_encoding bytes
    by_turns zero rest enough same is_last some = absurd (omega arith)
    by_turns (suc n) [] enough same is_last some = absurd (omega arith)
    by_turns (suc n) (b ∷ rest) enough same is_last some =
        sym (ap (after_turn (loop n)) is_last) ∙ same

-- nothing is left
pub no_turn :
    {bytes rest : List ℕ} → MarkupLeft bytes rest → length rest ≡ 0 → None ≡ markup_encoding bytes
no_turn {bytes = bytes} {rest = rest} left ended = by_turns left.turns rest ended left.same
  where
    by_turns :
        (n : ℕ) (rest : List ℕ) → length rest ≡ 0 → loop n rest ≡ markup_encoding bytes
        → None ≡ markup_encoding bytes
    by_turns zero rest ended same = same
    by_turns (suc n) [] ended same = same
    by_turns (suc n) (b ∷ rest) ended same = absurd (omega arith)
