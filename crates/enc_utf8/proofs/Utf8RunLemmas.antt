-- Bytes that follow one another as in well-formed UTF-8 are well-formed.
use Rattle.std.proofs.Common.{◌≡◌, ℕ, zero, suc, ◌+◌, ◌-◌, ◌<◌, ◌≤◌, ◌⊎◌, List, [], ◌∷◌, length, get_or, take, drop}
use Rattle.std.proofs.Common.{true, sym, ap, subst, arith, ◌∙◌, inl, inr, take-add, drop-drop}
use Rattle.std.proofs.lemmas.Bool.{cases_lt, cases_eq}
use Rattle.std.proofs.lemmas.Simd.{get_or-chunk}
use Rattle.std.proofs.lemmas.Str.{IsUtf8-nil, IsUtf8-append}
use Rattle.std.proofs.str.Valid.{of_one, of_two, of_three, of_four}
use Rattle.enc_utf8.proofs.LengthLemmas.{lengths, rest_is}
use Rattle.enc_utf8.specs.Validity.{IsWellFormedUtf8, AreAscii}
use Rattle.enc_utf8.specs.Utf8Run.{CanFollowBytes, CanFollowBytesAt, IsCharBoundaryAfter}
use Rattle.enc_utf8.specs.Utf8Sequences.{sequence_len, is_second_byte, is_continuation}
use Rattle.enc_utf8.proofs.Utf8SequenceLemmas.{two_range, three_range, four_range, from_three, at_most_four}
use Rattle.enc_utf8.proofs.Utf8SequenceLemmas.{second_range, continuation_range}

abbrev AreBetween : ℕ → ℕ → ℕ → Type 0
AreBetween z y x = (z < 0xF0) × (y < 0xE0) × (x < 0xC0)

-- each of the bytes can follow the three before it, and the last character is complete
abbrev AllFollow : ℕ → ℕ → ℕ → List ℕ → Type 0
AllFollow z y x [] = AreBetween z y x
AllFollow z y x (b ∷ bs) = CanFollowBytes z y x b × AllFollow y x b bs

unless : (a n : ℕ) {P : Type 0} → (a ≡ n → P) → (a ≡ n → ⊥) ⊎ P
unless a n f = elim (cases_eq a n) [ inl e ↦ inr (f e) | inr e ↦ inl e ]

-- the character in front

pub two_front : (src : List ℕ) → 1 < length src → sequence_len (get_or src 0 0) ≡ 2
    → is_second_byte (get_or src 0 0) (get_or src 1 0) ≡ true → IsWellFormedUtf8 (take 2 src)
two_front src some two follows =
    let second = second_range _ _ follows in
    of_two src 0 (omega arith) (two_range _ two) (omega arith, omega arith)

pub three_front : (src : List ℕ) → 2 < length src → sequence_len (get_or src 0 0) ≡ 3
    → is_second_byte (get_or src 0 0) (get_or src 1 0) ≡ true
    → is_continuation (get_or src 2 0) ≡ true → IsWellFormedUtf8 (take 3 src)
three_front src some three follows continues =
    let lead = three_range _ three in
    let second = second_range _ _ follows in
    let third = continuation_range _ continues in
    let least = unless (get_or src 0 0) 0xE0 second.2 in
    of_three src 0 (omega arith) lead (omega arith, omega arith) (omega arith, omega arith)
    (omega arith)
    (elim (cases_lt (get_or src 0 0) 0xED) [
      | inl below ↦ inl (omega arith)
      | inr from ↦ elim (cases_lt 0xED (get_or src 0 0)) [
        | inl above ↦ inr (omega arith)
        | inr equal ↦ inl (omega (arith, second.3 (omega arith)))
      ]
    ])

pub four_front : (src : List ℕ) → 3 < length src → sequence_len (get_or src 0 0) ≡ 4
    → is_second_byte (get_or src 0 0) (get_or src 1 0) ≡ true
    → is_continuation (get_or src 2 0) ≡ true → is_continuation (get_or src 3 0) ≡ true
    → IsWellFormedUtf8 (take 4 src)
four_front src some four follows continues ends =
    let lead = four_range _ four in
    let second = second_range _ _ follows in
    let third = continuation_range _ continues in
    let fourth = continuation_range _ ends in
    let least = unless (get_or src 0 0) 0xF0 second.4 in
    let most = unless (get_or src 0 0) 0xF4 second.5 in
    of_four src 0 (omega arith) lead.0 (omega arith, omega arith) (omega arith, omega arith)
    (omega arith, omega arith) (omega arith)

-- the bytes of several characters

module _ (n : ℕ) (rest : (z y x : ℕ) (bs : List ℕ) → length bs ≤ n → AreBetween z y x
    → AllFollow z y x bs
    → IsWellFormedUtf8 bs) where
  fourth : (a b c : ℕ) (bs : List ℕ) → length bs ≤ n → sequence_len a ≡ 4
      → is_second_byte a b ≡ true → is_continuation c ≡ true
      → AllFollow a b c bs → IsWellFormedUtf8 (a ∷ b ∷ c ∷ bs)
  fourth a b c [] few four follows continues follow =
      absurd (let lead = four_range a four in omega arith)
  fourth a b c (d ∷ bs) few four follows continues follow =
      let ends = follow.0.after_third (four_range a four).0 in
      let second = second_range a b follows in
      let third = continuation_range c continues in
      let last = continuation_range d ends in
      IsUtf8-append (a ∷ b ∷ c ∷ d ∷ []) bs
      (four_front (a ∷ b ∷ c ∷ d ∷ []) (omega arith) four follows continues ends)
      (rest b c d bs (omega arith) (omega arith, omega arith, omega arith) follow.1)

  third : (z a b : ℕ) (bs : List ℕ) → length bs ≤ n → 3 ≤ sequence_len a
      → is_second_byte a b ≡ true → AllFollow z a b bs → IsWellFormedUtf8 (a ∷ b ∷ bs)
  third z a b [] few more follows follow =
      absurd (let from = from_three a more in omega arith)
  third z a b (c ∷ bs) few more follows follow =
      let continues = follow.0.after_second (from_three a more) in
      elim (cases_eq (sequence_len a) 3) [
        | inl three ↦ (let lead = three_range a three in
            let second = second_range a b follows in
            let last = continuation_range c continues in
            IsUtf8-append (a ∷ b ∷ c ∷ []) bs
            (three_front (a ∷ b ∷ c ∷ []) (omega arith) three follows continues)
            (rest a b c bs (omega arith) (omega arith, omega arith, omega arith) follow.1))
        | inr longer ↦ fourth a b c bs (omega arith) (omega (arith, at_most_four a)) follows
            continues follow.1
      ]

  second : (y z a : ℕ) (bs : List ℕ) → length bs ≤ n → z < 0xC0 → 0xC0 ≤ a
      → AllFollow y z a bs → IsWellFormedUtf8 (a ∷ bs)
  second y z a [] few before is_lead follow = absurd (omega arith)
  second y z a (b ∷ bs) few before is_lead follow =
      let leads = follow.0.after_first is_lead in
      elim (cases_eq (sequence_len a) 2) [
        | inl two ↦ (let lead = two_range a two in
            let last = second_range a b leads.1 in
            IsUtf8-append (a ∷ b ∷ []) bs
            (two_front (a ∷ b ∷ []) (omega arith) two leads.1)
            (rest z a b bs (omega arith) (omega arith, omega arith, omega arith) follow.1))
        | inr longer ↦ third z a b bs (omega arith) (omega arith) leads.1 follow.1
      ]

  first : (z y x : ℕ) (bs : List ℕ) → length bs ≤ suc n → AreBetween z y x → AllFollow z y x bs
      → IsWellFormedUtf8 bs
  first z y x [] l is_between rest_follow = IsUtf8-nil
  first z y x (a ∷ bs) l is_between rest_follow =
      elim (rest_follow.0.begins is_between.2 is_between.1 is_between.0) [
        | inl u ↦ IsUtf8-append (a ∷ []) bs (of_one (a ∷ []) 0 (omega arith) u)
            (rest y x a bs (omega arith) (omega arith) rest_follow.1)
        | inr u ↦ second y x a bs (omega arith) is_between.2 u rest_follow.1
      ]

all_utf8 : (n z y x : ℕ) (bs : List ℕ) → length bs ≤ n → AreBetween z y x → AllFollow z y x bs
    → IsWellFormedUtf8 bs
all_utf8 zero z y x [] l h v = IsUtf8-nil
all_utf8 zero z y x (b ∷ bs) l h v = absurd (omega arith)
all_utf8 (suc n) z y x bs l h v = first n (all_utf8 n) z y x bs l h v

-- the same by places
all_follow : (n z y x : ℕ) (bs : List ℕ) → n ≤ length bs
    → ((k : ℕ) → k < n → CanFollowBytesAt (z ∷ y ∷ x ∷ bs) k)
    → IsCharBoundaryAfter (z ∷ y ∷ x ∷ bs) n
    → AllFollow z y x (take n bs)
all_follow zero z y x bs l follow ends_char = ends_char
all_follow (suc n) z y x [] l follow ends_char = absurd (omega arith)
all_follow (suc n) z y x (b ∷ bs) l follow ends_char = (
  follow 0 (omega arith),
  all_follow n y x b bs (omega arith)
      (λ k u. follow (suc k) (omega arith)) ends_char,
)

pub blocks_utf8 : (n : ℕ) (src : List ℕ) → n + 3 ≤ length src → IsCharBoundaryAfter src 0
    → ((k : ℕ) → k < n → CanFollowBytesAt src k) → IsCharBoundaryAfter src n
    → IsWellFormedUtf8 (take n (drop 3 src))
blocks_utf8 n [] l b h e = absurd (omega arith)
blocks_utf8 n (z ∷ []) l b h e = absurd (omega arith)
blocks_utf8 n (z ∷ y ∷ []) l b h e = absurd (omega arith)
blocks_utf8 n (z ∷ y ∷ x ∷ bs) l b h e =
    all_utf8 (length (take n bs)) z y x (take n bs) (omega arith) b
    (all_follow n z y x bs (omega arith) h e)

-- n bytes more are well-formed

pub longer : (src : List ℕ) (at n : ℕ) → IsWellFormedUtf8 (take at src)
    → IsWellFormedUtf8 (take n (take (length src - at) (drop at src)))
    → IsWellFormedUtf8 (take (at + n) src)
longer src at n a b =
    subst IsWellFormedUtf8 (sym (take-add at n src))
    (IsUtf8-append (take at src) (take n (drop at src)) a
    (subst (λ r. IsWellFormedUtf8 (take n r)) (rest_is at src) b))

-- the same, where three bytes before them are looked at as well
pub longer_from : (src : List ℕ) (at n : ℕ) → 3 ≤ at → IsWellFormedUtf8 (take at src)
    → IsWellFormedUtf8 (take n (drop 3 (take (length src - (at - 3)) (drop (at - 3) src))))
    → IsWellFormedUtf8 (take (at + n) src)
longer_from src at n h a b =
    let place : at - 3 + 3 ≡ at = omega arith in
    let rest = ap (drop 3) (rest_is (at - 3) src) ∙ drop-drop 3 (at - 3) src
    ∙ ap (λ m. drop m src) place ∙ sym (rest_is at src) in
    longer src at n a (subst (λ r. IsWellFormedUtf8 (take n r)) rest b)

-- after a complete character, ASCII can follow
module _ (src : List ℕ) (at n : ℕ) (l : at + 3 + n ≤ length src) (b : IsCharBoundaryAfter src at)
    (a : AreAscii (take n (drop (at + 3) src))) where
  low : (m : ℕ) → at + 3 ≤ m → m < at + 3 + n → get_or src m 0 < 0x80
  low m from to =
      let place : at + 3 + (m - (at + 3)) ≡ m = omega arith in
      subst (λ v. v < 0x80)
      (get_or-chunk (at + 3) n src (m - (at + 3)) 0 (omega arith) ∙ ap (λ k. get_or src k 0) place)
      (a (m - (at + 3)) 0 (omega (arith, lengths)))

  between : (d : ℕ) → d < n → IsCharBoundaryAfter src (at + d)
  between zero h =
      let same_place : at ≡ at + 0 = omega arith in subst (IsCharBoundaryAfter src) same_place b
  between (suc d) h =
      let next_place : suc (at + d) ≡ at + suc d = omega arith in
      let boundary = between d (omega arith) in
      let next_is_ascii = low (suc (suc (suc (at + d)))) (omega arith) (omega arith) in
      subst (IsCharBoundaryAfter src) next_place (omega arith, omega arith, omega arith)

  pub ascii_follows : (k : ℕ) → at ≤ k → k < at + n → CanFollowBytesAt src k
  ascii_follows k from to =
      let same_place : at + (k - at) ≡ k = omega arith in
      let boundary : IsCharBoundaryAfter src k =
      subst (IsCharBoundaryAfter src) same_place (between (k - at) (omega arith)) in
      let next_is_ascii = low (suc (suc (suc k))) (omega arith) (omega arith) in
      grind arith
