-- Characters of ISO-2022-JP are pieces, and a run may begin with an escape sequence.
use Rattle.std.proofs.Common.{◌≡◌, ℕ, ◌+◌, ◌<◌, true, false, eqb, Option, Some, None, List, [], ◌∷◌, ◌++◌, length, take}
use Rattle.std.proofs.Common.{drop, get_or, refl, ap, ◌∙◌, sym, subst, arith, append_assoc, length-drop, take-add}
use Rattle.std.proofs.Common.{drop-cons, append-nil}
use Rattle.std.proofs.lemmas.List.{take-append-drop, take_all}
use Rattle.std.proofs.lemmas.Bool.{lt-ltb, ne_eqb}
use Rattle.std.specs.Prelude.{◌≢◌}
use Rattle.std.specs.Option.{IfSome}
use Rattle.enc_output.specs.Output.{Output}
use Rattle.enc_output.specs.PieceRuns.{PutsPieces}
use Rattle.enc_utf8.specs.Pieces.{piece_chars, AreWrittenAsThemselves}
use Rattle.enc_output.proofs.OutputLemmas.{with_appended-nil}
use Rattle.enc_output.proofs.PiecesLemmas.{puts_wider}
use Rattle.enc_utf8.specs.Validity.{AreIso2022JpAscii}
use Rattle.enc_decoder.specs.declared.byte_codec.Kind.TheVariants.{Skipped}
use Rattle.enc_decoder_iso_2022_jp.specs.declared.character_set.CharacterSet.{CharacterSet}
use Rattle.enc_decoder_iso_2022_jp.specs.declared.character_set.CharacterSet.TheVariants.{Ascii, Roman, Katakana}
use Rattle.enc_decoder_iso_2022_jp.specs.declared.character_set.CharacterSet.TheVariants.{Jis0208}
use Rattle.enc_decoder_iso_2022_jp.specs.declared.escape.Intermediate.{Intermediate}
use Rattle.enc_decoder_iso_2022_jp.specs.declared.escape.Escape.{Escape}
use Rattle.enc_decoder.specs.Sequence.{Sequence}
use Rattle.enc_decoder.specs.Segmentation.{sequences_of}
use Rattle.enc_decoder_iso_2022_jp.specs.Iso2022Jp.{set_number, designated_set, is_lead_byte, one_byte_char}
use Rattle.enc_decoder_iso_2022_jp.specs.Iso2022Jp.{two_byte_char, is_jis0208_byte, iso_2022_jp_rule as jp_rule}
use Rattle.enc_decoder_iso_2022_jp.specs.Iso2022JpState.{Iso2022JpState, state_with_held, intermediate_byte}
use Rattle.enc_decoder_iso_2022_jp.specs.Iso2022JpState.{escape_bytes, escape_set, StandsAlone}
use Rattle.enc_decoder_iso_2022_jp.specs.Iso2022JpState.{iso_2022_jp_state as jp_state}
use Rattle.enc_decoder.specs.Taking.{TakesSequences, TakesRun, SkipsEnd, IsWholeChar, IsReplacedChar}
use Rattle.enc_decoder.proofs.SegmentationLemmas.{sequences_of-head, sequences_of-nil}
use Rattle.enc_decoder.proofs.TakingLemmas.{front, follows_second, takes_none}
use Rattle.enc_decoder.proofs.PieceLemmas.{takes_pieces, takes_replaced, three_of}
use Rattle.enc_decoder_iso_2022_jp.proofs.Iso2022JpLemmas.{found_for_other, has_escape_bytes, skipped_escape}
use Rattle.enc_decoder_iso_2022_jp.proofs.EscapeLookahead.{other_front}
use Rattle.enc_decoder_iso_2022_jp.proofs.Iso2022JpComes.{alone, pair}

-- 1B is no character, and ends none

none_alone : (s : CharacterSet) → one_byte_char s 0x1B ≡ None
unfolding one_byte_char
none_alone Ascii = refl
none_alone Roman = refl
none_alone Katakana = refl
none_alone Jis0208 = refl

none_after : (lead : ℕ) → two_byte_char lead 0x1B ≡ None
unfolding two_byte_char
none_after lead = refl

-- a byte that is a character, and two

no_lead : (s : CharacterSet) (b c : ℕ) → one_byte_char s b ≡ Some c → is_lead_byte s b ≡ false
unfolding one_byte_char is_lead_byte
no_lead Ascii b c is_char = refl
no_lead Roman b c is_char = refl
no_lead Katakana b c is_char = refl
no_lead Jis0208 b c is_char = cc

pub alone_piece : (s : CharacterSet) (b c : ℕ) → one_byte_char s b ≡ Some c
    → IsWholeChar jp_rule (set_number s) (b ∷ []) c
alone_piece s b c is_char y =
    sequences_of-head jp_rule (set_number s) b y _
    (alone s b (Some c) (sym is_char) (no_lead s b c is_char)
    (found_for_other (one_byte_char s) b c (none_alone s) is_char) y)

leads : (b : ℕ) → is_jis0208_byte b ≡ true → is_lead_byte Jis0208 b ≡ true
unfolding is_lead_byte
leads b in_range = in_range

pub pair_piece : (lead b c : ℕ) → two_byte_char lead b ≡ Some c → is_jis0208_byte lead ≡ true
    → IsWholeChar jp_rule (set_number Jis0208) (lead ∷ b ∷ []) c
pair_piece lead b c is_char in_range y =
    sequences_of-head jp_rule (set_number Jis0208) lead (b ∷ y) _
    (pair Jis0208 lead b (Some c) (sym is_char) (leads lead in_range)
    (found_for_other (two_byte_char lead) b c (none_after lead) is_char) y)

-- bytes that stand for themselves in ASCII

own_char : (b : ℕ) → b < 0x80 → b ≢ 0x0E → b ≢ 0x0F → b ≢ 0x1B → one_byte_char Ascii b ≡ Some b
unfolding one_byte_char
own_char b low out in_ escape =
    rw (lt-ltb b 0x80 low, ne_eqb b 0x0E out, ne_eqb b 0x0F in_, ne_eqb b 0x1B escape) refl

pub own_pieces : (bs : List ℕ) → AreIso2022JpAscii bs
    → AreWrittenAsThemselves (IsWholeChar jp_rule (set_number Ascii)) bs
own_pieces bs own k within is_own =
    let byte = own k within is_own in
    (byte.0, alone_piece Ascii _ _ (own_char _ byte.0 byte.1 byte.2 byte.3))

-- an escape sequence, and the bytes after it

abbrev skipped : Escape → Sequence
skipped e = record {
  bytes = escape_bytes e;
  text = [];
  kind = Skipped;
  set = set_number (escape_set e);
}

three_first : (e : Escape) (z : List ℕ) → (take 3 (escape_bytes e ++ z) ≡ escape_bytes e)
    × (drop 3 (escape_bytes e ++ z) ≡ z)
three_first e z = rw (has_escape_bytes e).bytes (refl, refl)

-- the three bytes in front are an escape sequence
escape_front : (src : List ℕ) (i : Intermediate) (e : Escape) → 2 < length src
    → get_or src 0 0 ≡ 0x1B
    → get_or src 1 0 ≡ intermediate_byte i
    → escape_bytes e ≡ 0x1B ∷ intermediate_byte i ∷ get_or src 2 0 ∷ []
    → take 3 src ≡ escape_bytes e
escape_front src i e there first second bytes_are =
    let names_set : get_or src 0 0 ∷ get_or src 1 0 ∷ get_or src 2 0 ∷ [] ≡ escape_bytes e =
    rw (first, second) (sym bytes_are) in
    three_of src 0 (omega arith) ∙ names_set

-- the escape sequence of three bytes in front, if they are one
pub stands_alone : (src : List ℕ) (i : Intermediate) (found : Option Escape) → 3 < length src
    → get_or src 0 0 ≡ 0x1B
    → get_or src 1 0 ≡ intermediate_byte i
    → eqb (get_or src 3 0) 0x1B ≡ false
    → IfSome found (λ e. escape_bytes e ≡ 0x1B ∷ intermediate_byte i ∷ get_or src 2
    0 ∷ [])
    → IfSome found (λ e. StandsAlone src e)
stands_alone src i None there first second other bytes_are = tt
stands_alone src i (Some e) there first second other bytes_are = record {
  byte = get_or src 3 0;
  rest = drop 4 src;
  bytes = sym (take-append-drop 3 src)
      ∙ ap (λ x. x ++ drop 3 src) (escape_front src i e (omega arith) first second bytes_are)
      ∙ ap (λ x. escape_bytes e ++ x) (drop-cons src 3 0 there);
  other = other;
}

-- the escape sequence that three bytes are, if they are one
pub is_whole : (src : List ℕ) (i : Intermediate) (found : Option Escape) → length src ≡ 3
    → get_or src 0 0 ≡ 0x1B
    → get_or src 1 0 ≡ intermediate_byte i
    → IfSome found (λ e. escape_bytes e ≡ 0x1B ∷ intermediate_byte i ∷ get_or src 2
    0 ∷ [])
    → IfSome found (λ e. src ≡ escape_bytes e)
is_whole src i None three first second bytes_are = tt
is_whole src i (Some e) three first second bytes_are =
    sym (take_all 3 src (omega arith))
    ∙ escape_front src i e (omega arith) first second bytes_are

after_escape : (units_of : ℕ → List ℕ) (s : CharacterSet) (e : Escape) (n : Iso2022JpState)
    (src : List ℕ) (more : ℕ)
    (before after : Output)
    → StandsAlone src e → 0 < more
    → TakesRun units_of jp_state (state_with_held (escape_set e) None) n
    (drop 3 src) more before after
    → TakesRun units_of jp_state (state_with_held s None) n src (3 + more) before after
after_escape units_of s e n src more before after is_alone some taken =
    let three = ap (take 3) is_alone.bytes ∙ (three_first e (is_alone.byte ∷ is_alone.rest)).0 in
    let begins = front more (drop 3 src) is_alone.byte is_alone.rest some
    (ap (drop 3) is_alone.bytes ∙ (three_first e (is_alone.byte ∷ is_alone.rest)).1) in
    let bytes = take more (drop 3 src) in
    record {
      run = record {
        taken = skipped e ∷ taken.run.taken;
        within = omega (arith, some, taken.run.within, length-drop 3 src);
        bytes = ap (λ z. escape_bytes e ++ z) taken.run.bytes ∙ ap (λ x. x ++ bytes) (sym three)
            ∙ sym (take-add 3 more src);
        first = λ y may_follow. ap (sequences_of jp_rule (set_number s))
            (ap (λ x. x ++ y) (take-add 3 more src)
            ∙ append_assoc (take 3 src) bytes y
            ∙ ap (λ x. x ++ (bytes ++ y)) three)
            ∙ skipped_escape (set_number s) e (bytes ++ y)
            (ap (λ x. designated_set (x ++ y)) begins.1
            ∙ other_front is_alone.byte (begins.0 ++ y) is_alone.other)
            ∙ ap (λ ss. skipped e ∷ ss)
            (taken.run.first y (follows_second src 3 more y may_follow));
        next_state = taken.run.next_state;
        scalars = taken.run.scalars;
        fits = taken.run.fits;
        written = taken.run.written;
        none_pending = λ _. refl;
        none_taken = λ z. absurd (omega arith);
      };
      none_malformed = taken.none_malformed;
    }

-- An escape sequence is taken with the pieces after it.
pub takes_escape : (units_of : ℕ → List ℕ) (c n : Iso2022JpState) (e : Escape) {src rest : List ℕ}
    {more : ℕ}
    {before after : Output}
    → c.held ≡ None → n ≡ state_with_held (escape_set e) None → rest ≡ drop 3 src
    → StandsAlone src e → 0 < more
    → PutsPieces units_of (IsWholeChar jp_rule (set_number n.set)) before after rest more
    → TakesRun units_of jp_state c n src (3 + more) before after
takes_escape units_of c n e {src} {rest} {more} {before} {after} none_held next_is rest_is is_alone
    some puts =
    let next = state_with_held (escape_set e) None in
    let taken = takes_pieces units_of jp_state next (drop 3 src) more before after refl
    (rw (next_is, rest_is) at puts) in
    rw next_is
    (subst (λ o. TakesRun units_of jp_state (state_with_held c.set o) next src (3 + more) before
    after) (sym none_held)
    (after_escape units_of c.set e next src more before after is_alone some taken))

-- An escape sequence that ends the input is skipped.
pub skips_escape : (c n : Iso2022JpState) (e : Escape) {src : List ℕ}
    → c.held ≡ None → n ≡ state_with_held (escape_set e) None → src ≡ escape_bytes e
    → SkipsEnd (jp_state c) (jp_state n) src
skips_escape c n e none_held next_is is_escape =
    let same_state = ap (λ o. state_with_held c.set o) none_held in
    rw (next_is, is_escape)
    (subst (λ v. SkipsEnd (jp_state v) (jp_state (state_with_held (escape_set e) None))
    (escape_bytes e)) (sym same_state) (record {
      taken = skipped e ∷ [];
      all = ap (sequences_of jp_rule (set_number c.set)) (sym (append-nil (escape_bytes e)))
          ∙ skipped_escape (set_number c.set) e [] refl
          ∙ ap (λ ss. skipped e ∷ ss) (sequences_of-nil jp_rule (set_number (escape_set e)));
      no_text = refl;
      none_malformed = refl;
      next_state = refl;
    }))

-- No piece is taken, of whatever bytes.
pub takes_no_pieces : {units_of : ℕ → List ℕ} {Means : List ℕ → ℕ → Type 0} (c : Iso2022JpState)
    (src : List ℕ) {rest : List ℕ} {n : ℕ} {before after : Output}
    → PutsPieces units_of Means before after rest n → n ≡ 0
    → TakesRun units_of jp_state c c src 0 before after
takes_no_pieces {units_of} c src {before = before} puts none =
    let no_text = sym puts.reads.chars ∙ ap piece_chars (puts.reads.none none) in
    rw (puts.written, no_text, with_appended-nil before) (takes_none units_of jp_state c src before)

-- Bytes in ASCII are sequences, malformed ones included.
pub takes_in_ascii : {units_of : ℕ → List ℕ} {c : Iso2022JpState} {src front : List ℕ} (m : ℕ)
    {n : ℕ} {before after : Output}
    → c ≡ state_with_held Ascii None → front ≡ take m src
    → PutsPieces units_of (IsReplacedChar jp_rule 0) before after front n
    → TakesSequences units_of (jp_state c) (jp_state c) src n before after
takes_in_ascii m in_ascii is_front puts =
    rw in_ascii (takes_replaced (jp_state (state_with_held Ascii None)) refl
    (puts_wider m is_front puts))
