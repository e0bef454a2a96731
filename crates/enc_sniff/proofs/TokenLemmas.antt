-- A step over white space and comments, or in a quoted string, and the bytes of a word.
use Rattle.std.proofs.Common.{◌≡◌, ◌≢◌, ℕ, suc, ◌+◌, ◌<◌, true, false, List, [], ◌∷◌, length, take}
use Rattle.std.proofs.Common.{drop, Some, refl, ap, ◌∙◌, arith}
use Rattle.std.specs.Prelude.{slice_index}
use Rattle.std.specs.List.{prefix_len, take_while}
use Rattle.std.proofs.lemmas.Bool.{ne_eqb}
use Rattle.std.proofs.lemmas.List.Folds.{length-prefix_len}
use Rattle.enc_sniff.specs.Positions.{past}
use Rattle.enc_sniff.specs.HeaderTokens.{is_past_comments, quotes_next, depth_after, past_comments}
use Rattle.enc_sniff.specs.HeaderTokens.{closing_offset, is_token_byte, word, token_from}

-- a byte that belongs to neither
pub comments_end :
    (depth : ℕ) (s : List ℕ) → 0 < length s → is_past_comments depth (slice_index s 0) ≡ true
    → s ≡ past_comments depth s
comments_end depth [] some ends = absurd (omega arith)
comments_end depth (b ∷ []) some ends = rw ends refl
comments_end depth (b ∷ c ∷ s) some ends = rw ends refl

-- a backslash in a comment
pub comments_pair :
    (depth : ℕ) (s : List ℕ) → 0 < length s → is_past_comments depth (slice_index s 0) ≡ false
    → quotes_next depth (slice_index s 0) ≡ true
    → past_comments depth (drop 1 (drop 1 s)) ≡ past_comments depth s
comments_pair depth [] some within quotes = absurd (omega arith)
comments_pair depth (b ∷ []) some within quotes = rw within refl
comments_pair depth (b ∷ c ∷ s) some within quotes = rw (within, quotes) refl

-- another byte
pub comments_byte :
    (depth : ℕ) (s : List ℕ) → 0 < length s → is_past_comments depth (slice_index s 0) ≡ false
    → quotes_next depth (slice_index s 0) ≡ false
    → past_comments (depth_after depth (slice_index s 0)) (drop 1 s) ≡ past_comments depth s
comments_byte depth [] some within plain = absurd (omega arith)
comments_byte depth (b ∷ []) some within plain = rw within refl
comments_byte depth (b ∷ c ∷ s) some within plain = rw (within, plain) refl

-- the quotation mark that ends a quoted string
pub closing_here :
    (n : ℕ) (s : List ℕ) → 0 < length s → slice_index s 0 ≡ 0x22 → Some n ≡ closing_offset n s
closing_here n [] some is_mark = absurd (omega arith)
closing_here n (b ∷ []) some is_mark = rw is_mark refl
closing_here n (b ∷ c ∷ s) some is_mark = rw is_mark refl

-- a backslash in it
pub closing_pair :
    (n : ℕ) (s : List ℕ) → 0 < length s → slice_index s 0 ≡ 0x5C
    → closing_offset (n + 2) (drop 1 (drop 1 s)) ≡ closing_offset n s
closing_pair n [] some is_pair = absurd (omega arith)
closing_pair n (b ∷ []) some is_pair = rw is_pair refl
closing_pair n (b ∷ c ∷ s) some is_pair = rw is_pair refl

-- another byte of it
pub closing_byte :
    (n : ℕ) (s : List ℕ) → 0 < length s → slice_index s 0 ≢ 0x22 → slice_index s 0 ≢ 0x5C
    → closing_offset (n + 1) (drop 1 s) ≡ closing_offset n s
closing_byte n [] some no_mark no_pair = absurd (omega arith)
closing_byte n (b ∷ []) some no_mark no_pair = rw (ne_eqb b 0x22 no_mark) refl
closing_byte n (b ∷ c ∷ s) some no_mark no_pair =
    rw (ne_eqb b 0x22 no_mark, ne_eqb b 0x5C no_pair) refl

-- a word at the front
pub word_token :
    (s after more rest : List ℕ) → 0 < length s → slice_index s 0 ≢ 0x22
    → is_token_byte (slice_index s 0) ≡ true → after ≡ drop 1 s
    → more ≡ take_while is_token_byte after → rest ≡ past is_token_byte after
    → Some (word (take (length more + 1) s), rest) ≡ token_from (slice_index s 0) (drop 1 s)
word_token [] after more rest some no_mark is_byte after_is more_is rest_is = absurd (omega arith)
word_token (b ∷ s) after more rest some no_mark is_byte after_is more_is rest_is =
    let more_now : more ≡ take_while is_token_byte s =
    more_is ∙ ap (take_while is_token_byte) after_is in
    let rest_now : rest ≡ past is_token_byte s = rest_is ∙ ap (past is_token_byte) after_is in
    let count : length more + 1 ≡ suc (prefix_len is_token_byte s) =
    omega (arith, ap length more_now, length-prefix_len is_token_byte s) in
    let text : take (length more + 1) (b ∷ s) ≡ b ∷ take_while is_token_byte s =
    ap (λ (n : ℕ). take n (b ∷ s)) count in
    rw (text, rest_now, ne_eqb b 0x22 no_mark, is_byte) refl
