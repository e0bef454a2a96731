-- Code units of UTF-16 that are stored as UTF-8 by their lanes.
use Rattle.std.proofs.Common.{◌≡◌, ℕ, zero, suc, ◌+◌, ◌*◌, ◌/◌, ◌%◌, ◌<◌, List, [], ◌∷◌, ◌++◌, map, length, take, drop}
use Rattle.std.proofs.Common.{refl, ap, ◌∙◌, sym, arith, append_assoc}
use Rattle.std.proofs.lemmas.Bool.{lt-ltb, le-ltb}
use Rattle.std.proofs.lemmas.Bool.Decides.{nat_tests}
use Rattle.std.proofs.lemmas.List.{length-map, take-map, drop-map, take-append-drop, take_all}
use Rattle.std.specs.Prelude.{All}
use Rattle.std.specs.Char.{encode_utf8}
use Rattle.std.proofs.lemmas.List.Elements.{All-tail, All-take}
use Rattle.std.proofs.lemmas.Simd.{Each1-get_or, pick_l_left, pick_l-range_with_len}
use Rattle.enc_utf8.specs.UnitWords.{unit_word, unit_word_low}
use Rattle.enc_utf8.specs.PackedUnits.{kept_bytes, triple_lens, unit_len}
use Rattle.enc_utf8.specs.Text.{units_of_text}
use Rattle.enc_utf8.proofs.LengthLemmas.{lengths}
use Rattle.enc_utf8.proofs.PackedLemmas.{kept_text}
use Rattle.enc_utf8.proofs.PackedUnitLanes.{pair_bytes, word_bytes, text_of_map}
use Rattle.enc_utf8.proofs.UnitLanes.{low_below, high_below}
use Rattle.enc_utf8.proofs.UnitsLemmas.{units-append}
use Rattle.enc_utf8.proofs.Utf8FormLemmas.{Form, One, Two, Three, Four, form_of}
use lib.Lanes.{Each1, digits_l, number_l, pick_l}
use mir.Syntax.{w16}
use mir.Val.{Fits}

all_mapped : (f : ℕ → ℕ) (n m : ℕ) → ((u : ℕ) → u < n → f u < m) → (us : List ℕ)
    → All (λ u. u < n) us → All (λ x. x < m) (map f us)
all_mapped f n m fits [] all k d inside = absurd (omega arith)
all_mapped f n m fits (u ∷ us) all zero d inside = fits u (all 0 0 (omega arith))
all_mapped f n m fits (u ∷ us) all (suc k) d inside =
    all_mapped f n m fits us (All-tail (λ u. u < n) u us all) k d (omega arith)

All-drop : {n : ℕ} (m : ℕ) (us : List ℕ) → All (λ u. u < n) us → All (λ u. u < n) (drop m us)
All-drop zero us all = all
All-drop (suc m) [] all = all
All-drop {n} (suc m) (u ∷ us) all = All-drop m us (All-tail (λ u. u < n) u us all)

-- code units below U+0800, as pairs

pair_spelt : (u : ℕ) → u < 0x800
    → take (unit_len u) (digits_l 0x100 2 (unit_word_low u)) ≡ encode_utf8 u
pair_spelt u below = spelt (form_of u)
  where
    spelt : Form u → take (unit_len u) (digits_l 0x100 2 (unit_word_low u)) ≡ encode_utf8 u
    spelt (One low code) =
        let byte : u % 256 ≡ u = omega arith in
        rw (lt-ltb u 128 low, code, byte) refl
    spelt (Two from two code) =
        let word = 0x80C0 + u / 64 + u % 64 * 256 in
        let first : word % 256 ≡ 192 + u / 64 = omega arith in
        let second : word / 256 % 256 ≡ 128 + u % 64 = omega arith in
        rw (le-ltb u 128 from, lt-ltb u 2048 two, code, first, second) refl
    spelt (Three from three code) = absurd (omega arith)
    spelt (Four from code) = absurd (omega arith)

pub short_text : (us fronts lens : List ℕ) → length us ≡ 8 → All (λ u. u < 0x800) us
    → fronts ≡ map unit_word_low us → lens ≡ map unit_len us
    → kept_bytes 2 lens (digits_l 0x100 16 (number_l 65536 fronts)) ≡ units_of_text encode_utf8 us
short_text us fronts lens long short fronts_are lens_are =
    kept_text 2 (λ u. digits_l 0x100 2 (unit_word_low u)) encode_utf8 unit_len (λ u. u < 0x800)
    (λ u below. refl) (λ u below. grind (arith, nat_tests)) pair_spelt us _ lens
    (ap (λ z. digits_l 0x100 16 (number_l 65536 z)) fronts_are
    ∙ pair_bytes 16 (map unit_word_low us) (omega (arith, long, length-map us unit_word_low))
    (all_mapped unit_word_low 0x800 65536 (λ u below. low_below u (omega arith)) us short)
    ∙ text_of_map (digits_l 0x100 2) unit_word_low us)
    lens_are short

-- any code units, as words

word_fits : (u : ℕ) → u < 65536 → unit_word u < 4294967296
word_fits u fits = omega (arith, low_below u fits, high_below u)

word_spelt : (u : ℕ) → u < 65536
    → take (unit_len u) (digits_l 0x100 4 (unit_word u)) ≡ encode_utf8 u
word_spelt u fits = spelt (form_of u)
  where
    spelt : Form u → take (unit_len u) (digits_l 0x100 4 (unit_word u)) ≡ encode_utf8 u
    spelt (One low code) =
        let word = u + (0x80 + u % 64) * 65536 in
        let byte : word % 256 ≡ u = omega arith in
        rw (lt-ltb u 128 low, code, byte) refl
    spelt (Two from two code) =
        let word = 0x80C0 + u / 64 + u % 64 * 256 + (0x80 + u % 64) * 65536 in
        let first : word % 256 ≡ 192 + u / 64 = omega arith in
        let second : word / 256 % 256 ≡ 128 + u % 64 = omega arith in
        rw (le-ltb u 128 from, lt-ltb u 2048 two, code, first, second) refl
    spelt (Three from three code) =
        let word = 0x80E0 + u / 4096 + u / 64 % 64 * 256 + (0x80 + u % 64) * 65536 in
        let first : word % 256 ≡ 224 + u / 4096 = omega arith in
        let second : word / 256 % 256 ≡ 128 + u / 64 % 64 = omega arith in
        let third : word / 256 / 256 % 256 ≡ 128 + u % 64 = omega arith in
        rw (le-ltb u 128 (omega arith), le-ltb u 2048 from, code, first, second, third) refl
    spelt (Four from code) = absurd (omega arith)

pub word_text : (us words lens : List ℕ) → length us ≡ 4 → All (λ u. u < 65536) us
    → words ≡ map unit_word us → lens ≡ map unit_len us
    → kept_bytes 4 lens (digits_l 0x100 16 (number_l 4294967296 words))
    ≡ units_of_text encode_utf8 us
word_text us words lens long fit words_are lens_are =
    kept_text 4 (λ u. digits_l 0x100 4 (unit_word u)) encode_utf8 unit_len (λ u. u < 65536)
    (λ u below. refl) (λ u below. grind (arith, nat_tests)) word_spelt us _ lens
    (ap (λ z. digits_l 0x100 16 (number_l 4294967296 z)) words_are
    ∙ word_bytes 16 (map unit_word us) (omega (arith, long, length-map us unit_word))
    (all_mapped unit_word 65536 4294967296 word_fits us fit)
    ∙ text_of_map (digits_l 0x100 4) unit_word us)
    lens_are fit

-- the halves of a mask

front_lens : (mask : ℕ) → triple_lens 4 (mask % 256) ≡ take 4 (triple_lens 8 mask)
front_lens mask =
    let a : mask % 256 % 2 ≡ mask % 2 = omega arith in
    let b : mask % 256 / 2 % 2 ≡ mask / 2 % 2 = omega arith in
    let c : mask % 256 / 4 % 2 ≡ mask / 4 % 2 = omega arith in
    let d : mask % 256 / 4 / 2 % 2 ≡ mask / 4 / 2 % 2 = omega arith in
    let e : mask % 256 / 4 / 4 % 2 ≡ mask / 4 / 4 % 2 = omega arith in
    let f : mask % 256 / 4 / 4 / 2 % 2 ≡ mask / 4 / 4 / 2 % 2 = omega arith in
    let g : mask % 256 / 4 / 4 / 4 % 2 ≡ mask / 4 / 4 / 4 % 2 = omega arith in
    let h : mask % 256 / 4 / 4 / 4 / 2 % 2 ≡ mask / 4 / 4 / 4 / 2 % 2 = omega arith in
    rw (a, b, c, d, e, f, g, h) refl

back_lens : (mask : ℕ) → triple_lens 4 (mask / 256) ≡ drop 4 (triple_lens 8 mask)
back_lens mask =
    let half : mask / 256 ≡ mask / 4 / 4 / 4 / 4 = omega arith in
    ap (triple_lens 4) half

-- Both halves of eight code units are stored, one after the other.
module _ (us words : List ℕ) (mask : ℕ) (long : length us ≡ 8) (fit : Each1 (Fits w16) us)
    (words_are : words ≡ map unit_word us) (lens_are : triple_lens 8 mask ≡ map unit_len us) where
  below : All (λ u. u < 65536) us
  below k d inside = (Each1-get_or (Fits w16) us k d inside fit).fits

  words_long : length words ≡ 8
  words_long = ap length words_are ∙ length-map us unit_word ∙ long

  abbrev bytes_of : List ℕ → List ℕ
  bytes_of half = digits_l 0x100 16 (number_l 4294967296 half)

  -- words.extract::<0, 4>() and words.extract::<4, 4>()
  abbrev first_words : List ℕ
  first_words = pick_l 0 (words ++ words) (0 ∷ 1 ∷ 2 ∷ 3 ∷ [])

  abbrev second_words : List ℕ
  second_words = pick_l 0 (words ++ words) (4 ∷ 5 ∷ 6 ∷ 7 ∷ [])

  first_words_are : first_words ≡ take 4 words
  first_words_are = pick_l_left 0 words words 8 (0 ∷ 1 ∷ 2 ∷ 3 ∷ []) words_long tt
      ∙ pick_l-range_with_len 0 words 0 4 (omega (arith, words_long))

  second_words_are : second_words ≡ drop 4 words
  second_words_are = pick_l_left 0 words words 8 (4 ∷ 5 ∷ 6 ∷ 7 ∷ []) words_long tt
      ∙ pick_l-range_with_len 0 words 4 4 (omega (arith, words_long))
      ∙ take_all 4 (drop 4 words) (omega (arith, lengths, words_long))

  first_text : kept_bytes 4 (triple_lens 4 (mask % 256)) (bytes_of first_words)
      ≡ units_of_text encode_utf8 (take 4 us)
  first_text = word_text (take 4 us) first_words _ (omega (arith, lengths, long))
      (All-take (λ u. u < 65536) 4 us below)
      (first_words_are ∙ ap (take 4) words_are ∙ take-map unit_word 4 us)
      (front_lens mask ∙ ap (take 4) lens_are ∙ take-map unit_len 4 us)

  second_text : kept_bytes 4 (triple_lens 4 (mask / 256)) (bytes_of second_words)
      ≡ units_of_text encode_utf8 (drop 4 us)
  second_text = word_text (drop 4 us) second_words _ (omega (arith, lengths, long))
      (All-drop 4 us below)
      (second_words_are ∙ ap (drop 4) words_are ∙ drop-map unit_word 4 us)
      (back_lens mask ∙ ap (drop 4) lens_are ∙ drop-map unit_len 4 us)

  pub both_halves : (front : List ℕ) {mid after : List ℕ}
      → mid ≡ front ++ kept_bytes 4 (triple_lens 4 (mask % 256)) (bytes_of first_words)
      → after ≡ mid ++ kept_bytes 4 (triple_lens 4 (mask / 256)) (bytes_of second_words)
      → after ≡ front ++ units_of_text encode_utf8 us
  both_halves front first second =
      second ∙ rw (first, first_text, second_text) (append_assoc front _ _
      ∙ ap (λ z. front ++ z) (sym (units-append encode_utf8 (take 4 us) (drop 4 us))
      ∙ ap (units_of_text encode_utf8) (take-append-drop 4 us)))
