-- The first sequence, by the kinds of the prefixes of the bytes.
use Rattle.std.proofs.Common.{◌≡◌, ℕ, ◌-◌, ◌<◌, ◌≤◌, zero, suc, true, false, List, [], ◌∷◌, ◌++◌, length, take, drop}
use Rattle.std.proofs.Common.{refl, ap, ◌∙◌, sym, arith, append-nil, append_assoc, Bool, ◌||◌, inl, inr}
use Rattle.std.proofs.lemmas.Bool.{and_parts, cases_Bool as true_or_false}
use Rattle.std.proofs.lemmas.List.{take-append-le, drop-append-le}
use Rattle.enc_decoder.specs.declared.byte_codec.Kind.{Kind}
use Rattle.enc_decoder.specs.declared.byte_codec.Kind.TheVariants.{Valid}
use Rattle.enc_decoder.specs.declared.byte_codec.Kind.TheVariants as kinds
use Rattle.enc_decoder.specs.declared.byte_codec.Text.{Text}
use Rattle.enc_decoder.specs.declared.byte_codec.Text.TheVariants.{One}
use Rattle.enc_decoder.specs.declared.prefix.Prefix.{Prefix}
use Rattle.enc_decoder.specs.declared.prefix.Prefix.TheVariants.{Complete, Malformed, Incomplete}
use Rattle.enc_decoder.specs.Sequence.{is_malformed, is_repeated_escape}
use Rattle.enc_decoder.specs.Segmentation.{sequences_of}
use Rattle.enc_decoder.specs.CodecLaw.{text_chars}
use Rattle.enc_decoder.specs.Taking.{IsWholeChar}
use Rattle.enc_decoder.specs.Prefixes.{malformed_prefix_head, prefix_head, prefix_rule, AreIncomplete}
use Rattle.enc_decoder.specs.Prefixes.{ArePrefixes, AreKept, LeavesIncomplete, is_incomplete, are_incomplete}
use Rattle.enc_decoder.proofs.SegmentationLemmas.{sequences_of-head}
use Rattle.enc_decoder.proofs.SequenceLemmas.{or_false, or_true}

-- `prefix` gives the kind of the first bytes: complete, malformed or incomplete
module _ (prefix : List ℕ → Prefix) where
  -- Where each prefix up to front ++ w is incomplete, the first sequence at `front` is that there.

  passes : (set : ℕ) (front w z : List ℕ) → AreIncomplete prefix front w
      → prefix_head prefix set front Incomplete (w ++ z)
      ≡ prefix_head prefix set (front ++ w) Incomplete z
  passes set front [] z are_incomplete =
      ap (λ x. prefix_head prefix set x Incomplete z) (sym (append-nil front))
  passes set front (c ∷ w) z are_incomplete =
      ap (λ r. prefix_head prefix set (front ++ c ∷ []) r (w ++ z)) are_incomplete.0
      ∙ passes set (front ++ c ∷ []) w z are_incomplete.1
      ∙ ap (λ x. prefix_head prefix set x Incomplete z) (append_assoc front (c ∷ []) w)

  -- all of them together are an incomplete prefix
  pub still_incomplete : (front w : List ℕ) → prefix front ≡ Incomplete
      → AreIncomplete prefix front w → prefix (front ++ w) ≡ Incomplete
  still_incomplete front [] incomplete are_incomplete = ap prefix (append-nil front) ∙ incomplete
  still_incomplete front (c ∷ w) incomplete are_incomplete =
      ap prefix (sym (append_assoc front (c ∷ []) w))
      ∙ still_incomplete (front ++ c ∷ []) w are_incomplete.0 are_incomplete.1

  -- the test of them

  test_tells : (r : Prefix) → is_incomplete r ≡ true → r ≡ Incomplete
  test_tells (Complete text) incomplete = absurd (cc)
  test_tells (Malformed n) incomplete = absurd (cc)
  test_tells Incomplete incomplete = refl

  pub by_test : (front w : List ℕ) → are_incomplete prefix front w ≡ true
      → AreIncomplete prefix front w
  by_test front [] test = tt
  by_test front (c ∷ w) test =
      let parts = and_parts _ _ test in
      (test_tells (prefix (front ++ c ∷ [])) parts.0, by_test (front ++ c ∷ []) w parts.1)

  pub passes_test : (front w : List ℕ) → AreIncomplete prefix front w
      → are_incomplete prefix front w ≡ true
  passes_test front [] incomplete = refl
  passes_test front (c ∷ w) incomplete =
      rw (incomplete.0, passes_test (front ++ c ∷ []) w incomplete.1) refl

  -- pending bytes

  pub kept_incomplete : (others : Bool) (w : List ℕ) → AreKept others prefix w → others ≡ false
      → AreIncomplete prefix [] w
  kept_incomplete others w kept none =
      by_test [] w (sym (or_false _) ∙ ap (λ t. are_incomplete prefix [] w || t) (sym none) ∙ kept)

  pub keeps_incomplete : (others : Bool) (w : List ℕ) → AreIncomplete prefix [] w
      → AreKept others prefix w
  keeps_incomplete others w incomplete = rw (passes_test [] w incomplete) refl

  pub keeps_others : (others : Bool) (w : List ℕ) → others ≡ true → AreKept others prefix w
  keeps_others others w leaves = rw leaves (or_true (are_incomplete prefix [] w))

  -- what is left after a malformed sequence
  pub keeps_left : (others : Bool) (w : List ℕ) (b n : ℕ)
      → (others ≡ false → LeavesIncomplete prefix) → AreIncomplete prefix [] w
      → prefix (w ++ b ∷ []) ≡ Malformed n → AreKept others prefix (drop n w)
  keeps_left others w b n leaves incomplete malformed = elim (true_or_false others) [
    | inl others_left ↦ keeps_others others (drop n w) others_left
    | inr none ↦ keeps_incomplete others (drop n w) (leaves none w b n incomplete malformed)
  ]

  -- they are incomplete with one byte more, if that makes an incomplete prefix
  pub one_more : (front w : List ℕ) (c : ℕ) → AreIncomplete prefix front w
      → prefix ((front ++ w) ++ c ∷ []) ≡ Incomplete
      → AreIncomplete prefix front (w ++ c ∷ [])
  one_more front [] c are_incomplete last_is =
      (ap (λ x. prefix (x ++ c ∷ [])) (sym (append-nil front)) ∙ last_is, tt)
  one_more front (d ∷ w) c are_incomplete last_is = (
    are_incomplete.0,
    one_more (front ++ d ∷ []) w c are_incomplete.1
        (ap (λ x. prefix (x ++ c ∷ [])) (append_assoc front (d ∷ []) w) ∙ last_is),
  )

  -- Past incomplete bytes w, the prefix that ends with the next byte c decides, be it incomplete
  -- too. All bytes are b ∷ x, since a rule takes the first by itself.
  pub rule_at : (set : ℕ) (w : List ℕ) (c : ℕ) (z : List ℕ) (b : ℕ) (x : List ℕ)
      → AreIncomplete prefix [] w → b ∷ x ≡ w ++ c ∷ z
      → prefix_rule prefix set b x
      ≡ prefix_head prefix set (w ++ c ∷ []) (prefix (w ++ c ∷ [])) z
  unfolding prefix_rule
  rule_at set [] c z b x are_incomplete parts = cc
  rule_at set (a ∷ w) c z b x are_incomplete parts =
      let same_first : b ≡ a = cc in
      let same_rest : x ≡ w ++ c ∷ z = cc in
      ap (λ n. prefix_head prefix set (n ∷ []) (prefix (n ∷ [])) x) same_first
      ∙ ap (λ t. prefix_head prefix set (a ∷ []) (prefix (a ∷ [])) t) same_rest
      ∙ ap (λ r. prefix_head prefix set (a ∷ []) r (w ++ c ∷ z)) are_incomplete.0
      ∙ passes set (a ∷ []) w (c ∷ z) are_incomplete.1

  -- If the shorter prefixes of `front` are incomplete, it settles the first sequence, whatever
  -- follows: its first n bytes, with this text and kind.
  pub record Settles (front : List ℕ) (n : ℕ) (text : Text) (kind : Kind) : Type 0 where
    pub head : (set : ℕ) (z : List ℕ)
        → prefix_head prefix set front (prefix front) z
        ≡ record { more = n - 1; text = text_chars text; kind = kind; set = set }
    pub some : 0 < n
    pub own : n ≤ length front
    -- none of these encodings has escapes, but `IsNextSequence` asks
    pub no_escape : is_repeated_escape kind ≡ false
    pub replaced : is_malformed kind ≡ true → text_chars text ≡ 0xFFFD ∷ []

  pub settles_complete : (front : List ℕ) (text : Text) → 0 < length front
      → prefix front ≡ Complete text → Settles front (length front) text Valid
  settles_complete front text some complete = record {
    head = λ set z. ap (λ r. prefix_head prefix set front r z) complete;
    some = some;
    own = omega arith;
    no_escape = refl;
    replaced = λ faulty. cc;
  }

  pub settles_malformed : ArePrefixes prefix → (front : List ℕ) (n : ℕ) → prefix front ≡ Malformed n
      → Settles front n (One 0xFFFD) kinds.Malformed
  settles_malformed laws front n malformed_front = record {
    head = λ set z. ap (λ r. prefix_head prefix set front r z) malformed_front;
    some = (laws.malformed front n malformed_front).0;
    own = (laws.malformed front n malformed_front).1;
    no_escape = refl;
    replaced = λ _. refl;
  }

  -- The settled sequence is the first: of bytes b ∷ x, as a rule takes them, and then of the same
  -- as w ++ c ∷ z.

  -- bytes with c among them are a first one and others
  cons_of : (w : List ℕ) (c : ℕ) (z : List ℕ) → (b : ℕ) × (x : List ℕ) × (b ∷ x ≡ w ++ c ∷ z)
  cons_of [] c z = (c, z, refl)
  cons_of (a ∷ w) c z = (a, w ++ c ∷ z, refl)

  settled_sequences : (set : ℕ) (w : List ℕ) (c : ℕ) (z : List ℕ) (n : ℕ) {text : Text}
      {kind : Kind} {b : ℕ} {x : List ℕ}
      → AreIncomplete prefix [] w → Settles (w ++ c ∷ []) n text kind → b ∷ x ≡ w ++ c ∷ z
      → sequences_of (prefix_rule prefix) set (b ∷ x)
      ≡ record { bytes = take n (b ∷ x); text = text_chars text; kind = kind; set = set }
      ∷ sequences_of (prefix_rule prefix) set (drop n (b ∷ x))
  settled_sequences set w c z zero are_incomplete settles parts =
      let some_bytes = settles.some in absurd (omega arith)
  settled_sequences set w c z (suc n) {b = b} {x} are_incomplete settles parts =
      let one_less : suc n - 1 ≡ n = omega arith in
      sequences_of-head (prefix_rule prefix) set b x _
      (rw one_less at (rule_at set w c z b x are_incomplete parts ∙ settles.head set z))

  pub settled_first : (set : ℕ) (w : List ℕ) (c : ℕ) (z : List ℕ) (n : ℕ) (text : Text)
      (kind : Kind)
      → AreIncomplete prefix [] w → Settles (w ++ c ∷ []) n text kind
      → sequences_of (prefix_rule prefix) set (w ++ c ∷ z)
      ≡ record { bytes = take n (w ++ c ∷ []); text = text_chars text; kind = kind; set = set }
      ∷ sequences_of (prefix_rule prefix) set (drop n (w ++ c ∷ []) ++ z)
  settled_first set w c z n text kind are_incomplete settles =
      let parts = (cons_of w c z).2 in
      rw (
        ← take-append-le n (w ++ c ∷ []) z settles.own,
        ← drop-append-le n (w ++ c ∷ []) z settles.own,
        append_assoc w (c ∷ []) z,
        ← parts,
      ) (settled_sequences set w c z n are_incomplete settles parts)

  -- where the input ends after incomplete bytes, all of them are one malformed sequence
  pub all_malformed : (set a : ℕ) (w : List ℕ) → AreIncomplete prefix [] (a ∷ w)
      → prefix_rule prefix set a w ≡ malformed_prefix_head set (length (a ∷ w))
  unfolding prefix_rule
  all_malformed set a w are_incomplete =
      ap (λ r. prefix_head prefix set (a ∷ []) r w) are_incomplete.0
      ∙ ap (prefix_head prefix set (a ∷ []) Incomplete) (sym (append-nil w))
      ∙ passes set (a ∷ []) w [] are_incomplete.1

-- bytes that are a character, whatever follows them

pub complete_one : (prefix : List ℕ → Prefix) (b c : ℕ) → prefix (b ∷ []) ≡ Complete (One c)
    → IsWholeChar (prefix_rule prefix) 0 (b ∷ []) c
complete_one prefix b c e y =
    settled_first prefix 0 [] b y 1 (One c) Valid tt
    (settles_complete prefix (b ∷ []) (One c) (omega arith) e)

pub complete_two : (prefix : List ℕ → Prefix) (a b c : ℕ) → prefix (a ∷ []) ≡ Incomplete
    → prefix (a ∷ b ∷ []) ≡ Complete (One c)
    → IsWholeChar (prefix_rule prefix) 0 (a ∷ b ∷ []) c
complete_two prefix a b c u e y =
    settled_first prefix 0 (a ∷ []) b y 2 (One c) Valid (u, tt)
    (settles_complete prefix (a ∷ b ∷ []) (One c) (omega arith) e)
