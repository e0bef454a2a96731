-- The decoder of whole inputs, by the first sequence and the bytes after it.
use Rattle.std.proofs.Common.{◌≡◌, ℕ, ◌+◌, ◌-◌, ◌<◌, ◌≤◌, suc, Bool, true, ◌&&◌, List, [], ◌∷◌, ◌++◌, length}
use Rattle.std.proofs.Common.{get_or, drop, refl, ap, ◌∙◌, sym, arith, append_assoc, append-nil, ◌||◌}
use Rattle.std.proofs.Common.{drop-cons, drop-drop}
use Rattle.std.proofs.Math.ListN.{drop_of_length-le}
use Rattle.std.proofs.lemmas.List.{length-append}
use Rattle.std.specs.Char.{encode_utf8}
use Rattle.enc_utf8.specs.Text.{units_of_text}
use Rattle.enc_decoder.specs.declared.byte_codec.Text.TheVariants.{One}
use Rattle.enc_decoder.specs.declared.prefix.Prefix.{Prefix}
use Rattle.enc_decoder.specs.declared.prefix.Prefix.TheVariants.{Complete, Malformed, Incomplete}
use Rattle.enc_decoder.specs.Sequence.{sequence_text, is_malformed, any_malformed}
use Rattle.enc_decoder.specs.Segmentation.{Head, character_head, malformed_head, head_sequence, sequences_of}
use Rattle.enc_decoder.specs.Prefixes.{prefix_head, prefix_rule, AreIncomplete, is_incomplete, are_incomplete}
use Rattle.enc_decoder.proofs.PrefixLemmas.{one_more}
use Rattle.enc_decoder.proofs.SequenceLemmas.{or_assoc, or_false}
use Rattle.enc_decoder.proofs.SegmentationLemmas.{sequences_of-cons, sequences_of-nil}
use Rattle.enc_decoder_utf.specs.Utf8.{utf_8_rule, utf_8_prefix}
use Rattle.enc_decoder_utf.proofs.Utf8Lemmas.{holds_of_first}
use Rattle.enc_decoder_utf.proofs.Utf8Prefixes.{utf_8_prefixes}
use Rattle.enc_decoder_utf.proofs.Utf8Rule.{utf_8_by_prefixes}

-- the first sequence

abbrev pub head_of : List ℕ → Head
head_of bytes = utf_8_rule 0 (get_or bytes 0 0) (drop 1 bytes)

head_by_prefixes : (bytes : List ℕ) → 0 < length bytes
    → head_of bytes ≡ prefix_head utf_8_prefix 0 [] Incomplete bytes
unfolding prefix_rule
head_by_prefixes [] some = absurd (omega arith)
head_by_prefixes (b ∷ z) some = rw (← utf_8_by_prefixes) refl

-- that sequence and whether all bytes are incomplete, by the prefix in front and its kind
abbrev first : List ℕ → Prefix → List ℕ → Head × Bool
first front r z = (
  prefix_head utf_8_prefix 0 front r z,
  is_incomplete r && are_incomplete utf_8_prefix front z,
)

-- The first bytes, `front`, are an incomplete prefix, so those after them decide.
pub record Walks (bytes front : List ℕ) (at : ℕ) : Type 0 where
  pub len : length front ≡ at
  pub within : at ≤ length bytes
  pub incomplete : AreIncomplete utf_8_prefix [] front
  pub decide : first [] Incomplete bytes ≡ first front Incomplete (drop at bytes)

-- the byte after them, by the kind of the prefix that it ends
module _ {bytes front : List ℕ} {at : ℕ} (walks : Walks bytes front at)
    (there : at < length bytes) {kind : Prefix}
    (is_kind : kind ≡ utf_8_prefix (front ++ get_or bytes at 0 ∷ [])) where
  abbrev longer : List ℕ
  longer = front ++ get_or bytes at 0 ∷ []

  longer_len : length longer ≡ at + 1
  longer_len = length-append front (get_or bytes at 0 ∷ []) ∙ ap (λ n. n + 1) walks.len

  next : {r : Prefix} → kind ≡ r
      → first [] Incomplete bytes ≡ first longer r (drop (suc at) bytes)
  next is_r =
      walks.decide ∙ ap (first front Incomplete) (drop-cons bytes at 0 there)
      ∙ ap (λ r. first longer r (drop (suc at) bytes)) (sym is_kind ∙ is_r)

  next_head : {r : Prefix} → kind ≡ r
      → head_of bytes ≡ prefix_head utf_8_prefix 0 longer r (drop (suc at) bytes)
  next_head is_r =
      head_by_prefixes bytes (omega arith) ∙ ap (λ (p : Head × Bool). p.0) (next is_r)

  pub next_test : {r : Prefix} → kind ≡ r → are_incomplete utf_8_prefix [] bytes
      ≡ (is_incomplete r && are_incomplete utf_8_prefix longer (drop (suc at) bytes))
  next_test is_r = ap (λ (p : Head × Bool). p.1) (next is_r)

  pub goes_on : kind ≡ Incomplete → Walks bytes longer (at + 1)
  goes_on is_incomplete =
      let place : suc at ≡ at + 1 = omega arith in
      record {
        len = longer_len;
        within = omega arith;
        incomplete = one_more utf_8_prefix [] front (get_or bytes at 0) walks.incomplete
            (sym is_kind ∙ is_incomplete);
        decide = rw place at (next is_incomplete);
      }

  pub complete_found : {c : ℕ} → kind ≡ Complete (One c) → head_of bytes ≡ character_head 0 at c
  complete_found {c} is_complete =
      let same_len : length longer - 1 ≡ at = omega (arith, longer_len) in
      next_head is_complete ∙ ap (λ n. character_head 0 n c) same_len

  pub malformed_found : {n : ℕ} → kind ≡ Malformed n
      → (0 < n) × (n ≤ length bytes) × (head_of bytes ≡ malformed_head 0 (n - 1))
  malformed_found {n} is_malformed =
      let own = utf_8_prefixes.malformed longer n (sym is_kind ∙ is_malformed) in
      (own.0, omega (arith, longer_len, own.1), next_head is_malformed)

-- at the end all of them are malformed
module _ {bytes front : List ℕ} {at : ℕ} (walks : Walks bytes front at) (all : length bytes ≤ at)
  where
    last : first [] Incomplete bytes ≡ first front Incomplete []
    last = walks.decide ∙ ap (first front Incomplete) (drop_of_length-le bytes all)

    pub end_found : 0 < length bytes → head_of bytes ≡ malformed_head 0 (at - 1)
    end_found some =
        head_by_prefixes bytes some ∙ ap (λ (p : Head × Bool). p.0) last
        ∙ ap (λ n. malformed_head 0 (n - 1)) walks.len

    pub end_test : are_incomplete utf_8_prefix [] bytes ≡ true
    end_test = ap (λ (p : Head × Bool). p.1) last

-- no sequence changes the designated character set
rule_set : (b : ℕ) (z : List ℕ) → (utf_8_rule 0 b z).set ≡ 0
rule_set b z = holds_of_first (λ h. h.set ≡ 0) 0 b z (λ _. refl) refl

-- what a sequence found at the front adds to the text and to the errors

abbrev pub text_of_bytes : List ℕ → List ℕ
text_of_bytes z = units_of_text encode_utf8 (sequence_text (sequences_of utf_8_rule 0 z))

abbrev pub malformed_bytes : List ℕ → Bool
malformed_bytes z = any_malformed (sequences_of utf_8_rule 0 z)

first_then_rest : (rest : List ℕ) (n : ℕ) → 0 < length rest → n ≡ (head_of rest).more + 1
    → sequences_of utf_8_rule 0 rest
    ≡ head_sequence (head_of rest) (get_or rest 0 0) (drop 1 rest)
    ∷ sequences_of utf_8_rule 0 (drop n rest)
first_then_rest [] n some is_length = absurd (omega arith)
first_then_rest (b ∷ z) n some is_length =
    let one_more : n ≡ suc (utf_8_rule 0 b z).more = omega arith in
    rw one_more (sequences_of-cons utf_8_rule 0 b z
    ∙ ap (λ set. head_sequence (utf_8_rule 0 b z) b z
    ∷ sequences_of utf_8_rule set (drop (utf_8_rule 0 b z).more z)) (rule_set b z))

front_text : (rest : List ℕ) (n c : ℕ) → 0 < length rest → n ≡ (head_of rest).more + 1
    → (head_of rest).text ≡ c ∷ []
    → text_of_bytes rest ≡ encode_utf8 c ++ text_of_bytes (drop n rest)
front_text rest n c some is_length is_char =
    rw (first_then_rest rest n some is_length, is_char) refl

front_malformed : (rest : List ℕ) (n : ℕ) (m : Bool) → 0 < length rest
    → n ≡ (head_of rest).more + 1 → m ≡ is_malformed (head_of rest).kind
    → malformed_bytes rest ≡ (m || malformed_bytes (drop n rest))
front_malformed rest n m some is_length is_kind =
    rw (first_then_rest rest n some is_length, is_kind) refl

-- how far a whole input is decoded: the text written and that of the remaining bytes are its text

pub record Decoded (bytes : List ℕ) (read : ℕ) (wrote : List ℕ) (had_errors : Bool) : Type 0 where
  pub within : read ≤ length bytes
  pub text : wrote ++ text_of_bytes (drop read bytes) ≡ text_of_bytes bytes
  pub malformed : (had_errors || malformed_bytes (drop read bytes)) ≡ malformed_bytes bytes

pub goes_past : (bytes : List ℕ) (read : ℕ) (wrote : List ℕ) (had_errors : Bool)
    → Decoded bytes read wrote had_errors
    → (n c : ℕ) (m : Bool) → 0 < length (drop read bytes) → n ≡ (head_of (drop read bytes)).more + 1
    → (head_of (drop read bytes)).text ≡ c ∷ [] → m ≡ is_malformed (head_of (drop read bytes)).kind
    → read + n ≤ length bytes
    → Decoded bytes (read + n) (wrote ++ encode_utf8 c) (had_errors || m)
goes_past bytes read wrote had_errors so_far n c m some_left is_length is_char is_kind within =
    let rest = drop read bytes in
    let rest_is : drop n (drop read bytes) ≡ drop (read + n) bytes = drop-drop n read bytes in
    record {
      within = within;
      text = append_assoc wrote (encode_utf8 c) (text_of_bytes (drop (read + n) bytes))
          ∙ rw (← rest_is, ← front_text rest n c some_left is_length is_char) so_far.text;
      malformed = or_assoc had_errors m (malformed_bytes (drop (read + n) bytes))
          ∙ rw (← rest_is, ← front_malformed rest n m some_left is_length is_kind)
          so_far.malformed;
    }

pub all_decoded : {bytes : List ℕ} {read : ℕ} {wrote : List ℕ} {had_errors : Bool}
    → Decoded bytes read wrote had_errors → length bytes ≤ read
    → (wrote ≡ text_of_bytes bytes) × (had_errors ≡ malformed_bytes bytes)
all_decoded {bytes} {read} {wrote} {had_errors} so_far all_read =
    let none_left : sequences_of utf_8_rule 0 (drop read bytes) ≡ [] =
    rw (drop_of_length-le bytes all_read) (sequences_of-nil utf_8_rule 0) in (
      sym (append-nil wrote) ∙ (rw none_left at so_far.text),
      sym (or_false had_errors) ∙ (rw none_left at so_far.malformed),
    )
