-- Encodings by the kinds of prefixes: what pending bytes and the next byte show.
use Rattle.std.proofs.Common.{◌≡◌, ℕ, ◌+◌, ◌-◌, ◌<◌, ◌≤◌, Bool, true, false, nat_lt, List, [], ◌∷◌, ◌++◌, length, take}
use Rattle.std.proofs.Common.{drop, refl, ap, ◌∙◌, sym, arith, append-nil, append_assoc, Option, Some, None, IfSome}
use Rattle.std.proofs.Common.{IsNone}
use Rattle.std.proofs.lemmas.List.{length-append, length-drop, take-append-le, drop-append-le, take-append-drop}
use Rattle.std.proofs.lemmas.List.{length-take-le}
use Rattle.std.proofs.lemmas.Bool.Decides.{nat_tests}
use Rattle.std.proofs.Math.Seq.{take-length, drop-length}
use Rattle.std.proofs.Math.ListN.{drop_of_length-le}
use Rattle.enc_decoder.specs.declared.byte_codec.Kind.{Kind}
use Rattle.enc_decoder.specs.declared.byte_codec.Kind.TheVariants.{Malformed}
use Rattle.enc_decoder.specs.declared.byte_codec.Text.{Text}
use Rattle.enc_decoder.specs.declared.byte_codec.Text.TheVariants.{One as Character}
use Rattle.enc_decoder.specs.declared.pending.Pending.{Pending}
use Rattle.enc_decoder.specs.declared.pending.Pending.TheVariants.{Nothing, One, Two, Three}
use Rattle.enc_decoder.specs.Pending.{bytes_of_pending, first_byte}
use Rattle.enc_decoder.specs.declared.byte_codec.Emission.{Emission}
use Rattle.enc_decoder.specs.declared.byte_codec.HandlerResult.TheVariants.{Continue, Emit}
use Rattle.enc_decoder.specs.declared.prefix.Prefix.{Prefix}
use Rattle.enc_decoder.specs.declared.prefix.Prefix.TheVariants.{Incomplete}
use Rattle.enc_decoder.specs.Sequence.{Sequence, is_malformed, is_repeated_escape}
use Rattle.enc_decoder.specs.Segmentation.{sequences_of}
use Rattle.enc_decoder.specs.CodecState.{CodecState}
use Rattle.enc_decoder.specs.CodecLaw.{BeginsWithByte, text_chars, IsNextSequence, HandlesByte}
use Rattle.enc_decoder.specs.CodecLaw.{IsNextOfPending, IsNextAtEnd}
use Rattle.enc_decoder.specs.Prefixes.{prefix_rule, prefix_state, AreIncomplete, ArePrefixes}
use Rattle.enc_decoder.proofs.SegmentationLemmas.{sequences_of-head}
use Rattle.enc_decoder.proofs.EmissionLemmas.{shows_with, shows_before}
use Rattle.enc_decoder.proofs.PrefixLemmas.{one_more, Settles, settled_first, all_malformed}
use Rattle.enc_decoder.proofs.PrefixRule.{undetermined}

-- one to three bytes are pending
pub pending_len : (p : Pending) → (length (bytes_of_pending p) ≤ 3)
    × ((p ≡ Nothing → ⊥) → 0 < length (bytes_of_pending p))
pending_len Nothing = (omega arith, λ some. absurd (some refl))
pending_len (One a) = (omega arith, λ some. omega arith)
pending_len (Two a b) = (omega arith, λ some. omega arith)
pending_len (Three a b c) = (omega arith, λ some. omega arith)

-- the first of some bytes, and the others
first_and_rest : (z : List ℕ) (a : ℕ) → first_byte z ≡ Some a → z ≡ a ∷ drop 1 z
first_and_rest [] a is_first = cc
first_and_rest (b ∷ z) a is_first = cc

module _ {C : Type 0} (prefix_of : C → List ℕ → Prefix) (pending : C → Pending) (c next : C)
    (laws : ArePrefixes (prefix_of c)) (same : prefix_of next ≡ prefix_of c) where
  abbrev state : C → CodecState
  state d = prefix_state (prefix_of d) (bytes_of_pending (pending d))

  abbrev prefix : List ℕ → Prefix
  prefix = prefix_of c

  -- the pending bytes, and those that are left
  abbrev p : List ℕ
  p = bytes_of_pending (pending c)

  abbrev left : List ℕ
  left = bytes_of_pending (pending next)

  -- a sequence of these bytes, and those of other bytes
  abbrev sequence_then : List ℕ → List ℕ → Kind → List ℕ → List Sequence
  sequence_then bytes text kind others =
      record { bytes = bytes; text = text; kind = kind; set = 0 }
      ∷ sequences_of (prefix_rule prefix) 0 others

  -- the first n pending bytes are a sequence, and what shows it isn't read
  takes_pending : {may_follow : List ℕ → Type 0} {n len : ℕ} {text : Text} {kind : Kind}
      → n ≤ length p → 0 < n → len ≡ n → left ≡ drop n p → is_repeated_escape kind ≡ false
      → (is_malformed kind ≡ true → text_chars text ≡ 0xFFFD ∷ [])
      → ((y : List ℕ) → may_follow y → sequences_of (prefix_rule prefix) 0 (p ++ y)
      ≡ sequence_then (take n p) (text_chars text) kind (drop n p ++ y))
      → IsNextSequence state c may_follow []
      (record { text = text; kind = kind; len = len; takes_byte = false; next = next })
  takes_pending {may_follow} {n} {len} {text} {kind} within some is_length left_is no_escape
      replaced first =
      let few = (pending_len (pending c)).0 in
      let left_length = ap length left_is ∙ length-drop n p in
      let taken_length = length-take-le n p within in
      shows_before state c next text kind len may_follow (take n p) (ap prefix_rule same)
      (sym (take-append-drop n p) ∙ ap (λ y. take n p ++ y) (sym left_is))
      (is_length ∙ sym taken_length) (omega arith) no_escape
      (λ faulty. (replaced faulty, (omega arith, omega arith, omega arith)))
      (λ y follows. rw (same, left_is) (first y follows))

  -- the pending bytes show what the first of them are
  pub shows_pending : {may_follow : List ℕ → Type 0} (w rest : List ℕ) {x n len : ℕ} {text : Text}
      {kind : Kind}
      → p ≡ w ++ rest → first_byte rest ≡ Some x → AreIncomplete prefix [] w
      → Settles prefix (w ++ x ∷ []) n text kind
      → len ≡ n
      → left ≡ drop n p
      → IsNextSequence state c may_follow []
      (record { text = text; kind = kind; len = len; takes_byte = false; next = next })
  shows_pending w rest {x} {n} {text = text} {kind} parts begins are_incomplete settles is_length
      left_is =
      let others = drop 1 rest in
      let front = w ++ x ∷ [] in
      let all : p ≡ front ++ others =
      parts ∙ ap (λ z. w ++ z) (first_and_rest rest x begins) ∙ sym (append_assoc w (x ∷ []) others)
      in
      let lengths = ap length all ∙ length-append front others in
      takes_pending (omega (arith, settles.own)) settles.some is_length left_is settles.no_escape
      settles.replaced
      (λ y _. rw (
        all,
        append_assoc front others y,
        append_assoc w (x ∷ []) (others ++ y),
        take-append-le n front others settles.own,
        drop-append-le n front others settles.own,
        append_assoc (drop n front) others y,
      ) (settled_first prefix 0 w x (others ++ y) n text kind are_incomplete settles))

  -- the byte after them is the last of a sequence
  pub shows_byte_with : (b : ℕ) {n len : ℕ} {text : Text} {kind : Kind} → AreIncomplete prefix [] p
      → Settles prefix (p ++ b ∷ []) n text kind → length p < n → len ≡ n → left ≡ []
      → HandlesByte state c b
      (Emit (record { text = text; kind = kind; len = len; takes_byte = true; next = next }))
  shows_byte_with b {n} {len} {text} {kind} are_incomplete settles is_longer is_length none_left =
      let few = (pending_len (pending c)).0 in
      let all = p ++ b ∷ [] in
      let one_longer : length all ≡ length p + 1 = length-append p (b ∷ []) in
      let is_all : n ≡ length all = omega (arith, settles.own) in
      shows_with state c next text kind len b (ap prefix_rule same) none_left
      (is_length ∙ is_all ∙ one_longer) settles.no_escape
      (λ faulty. (settles.replaced faulty, omega arith))
      (λ z. rw (same, none_left) (rw (is_all, take-length all, drop-length all)
      at (settled_first prefix 0 p b z n text kind are_incomplete settles)))

  -- the byte after them shows that the first of them are malformed, and is not one of those
  shows_byte_before : (b : ℕ) {n len : ℕ} {text : Text} {kind : Kind} → AreIncomplete prefix [] p
      → Settles prefix (p ++ b ∷ []) n text kind → n ≤ length p → len ≡ n → left ≡ drop n p
      → HandlesByte state c b
      (Emit (record { text = text; kind = kind; len = len; takes_byte = false; next = next }))
  shows_byte_before b {n} {text = text} {kind} are_incomplete settles within is_length left_is = (
    takes_pending {may_follow = BeginsWithByte b} within settles.some is_length left_is
        settles.no_escape settles.replaced
        (λ y begins. rw begins.1 (rw (
          take-append-le n p (b ∷ []) within,
          drop-append-le n p (b ∷ []) within,
          append_assoc (drop n p) (b ∷ []) begins.0,
        ) at (settled_first prefix 0 p b begins.0 n text kind are_incomplete settles))),
    λ takes. cc,
  )

  -- it shows one or the other
  pub shows_byte : (b : ℕ) {n len : ℕ} {text : Text} {kind : Kind} (takes : Bool)
      → takes ≡ nat_lt (length p) n
      → AreIncomplete prefix [] p → Settles prefix (p ++ b ∷ []) n text kind → len ≡ n
      → left ≡ drop n p
      → HandlesByte state c b
      (Emit (record { text = text; kind = kind; len = len; takes_byte = takes; next = next }))
  shows_byte b {n} true is_taken are_incomplete settles is_length left_is =
      let is_longer : length p < n = grind (arith, nat_tests) in
      shows_byte_with b are_incomplete settles is_longer is_length
      (left_is ∙ drop_of_length-le p (omega arith))
  shows_byte b false is_taken are_incomplete settles is_length left_is =
      shows_byte_before b are_incomplete settles (grind (arith, nat_tests)) is_length left_is

  -- it is held
  pub waits : (b : ℕ) → AreIncomplete prefix [] p → prefix (p ++ b ∷ []) ≡ Incomplete
      → left ≡ p ++ b ∷ []
      → HandlesByte state c b (Continue next)
  waits b are_incomplete is_incomplete left_is = (
    ap (λ f. prefix_state f left) same ∙ ap (prefix_state prefix) left_is,
    rw (same, left_is) (undetermined prefix laws (p ++ b ∷ [])
        (one_more prefix [] p b are_incomplete is_incomplete)),
  )

  -- what they show by themselves, unless all of them are incomplete
  pub ready_by : (shown : Option (Emission C))
      → IfSome shown (λ emission. IsNextOfPending state c (Some emission))
      → (IsNone shown → AreIncomplete prefix [] p)
      → IsNextOfPending state c shown
  ready_by None is_next are_incomplete = undetermined prefix laws p (are_incomplete refl)
  ready_by (Some emission) is_next are_incomplete = is_next

  -- the end of the input leaves all of them malformed
  pub left_over : (len : ℕ) → AreIncomplete prefix [] p → 0 < length p → len ≡ length p → left ≡ []
      → IsNextAtEnd state c (Some
      (record {
        text = Character 0xFFFD;
        kind = Malformed;
        len = len;
        takes_byte = false;
        next = next;
      }))
  left_over len are_incomplete some is_length none_left = (
    takes_pending {text = Character 0xFFFD} {kind = Malformed} (omega arith) some is_length
        (none_left ∙ sym (drop-length p)) refl (λ _. refl)
        (λ y ends. rw (ends, append-nil p, take-length p, drop-length p)
        (malformed_first p are_incomplete some)),
    refl,
  )
    where
      malformed_first : (p : List ℕ) → AreIncomplete prefix [] p → 0 < length p
          → sequences_of (prefix_rule prefix) 0 p ≡ sequence_then p (0xFFFD ∷ []) Malformed []
      malformed_first [] are_incomplete some = absurd (omega arith)
      malformed_first (a ∷ w) are_incomplete some =
          let rest_length : length (a ∷ w) - 1 ≡ length w = omega arith in
          rw (rest_length, take-length w, drop-length w) at
          (sequences_of-head (prefix_rule prefix) 0 a w _
          (all_malformed prefix 0 a w are_incomplete))
