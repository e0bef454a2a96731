-- Bytes that are written to a part of a slice.
use Rattle.std.proofs.Common.{◌≡◌, ℕ, ◌+◌, ◌-◌, ◌≤◌, List, ◌++◌, length, take, drop, refl, ap, ◌∙◌, sym, arith}
use Rattle.std.proofs.Common.{append_assoc, drop-drop, length-drop}
use Rattle.std.proofs.lemmas.List.{length-take, drop-append-le, drop-take, take-append-drop}
use Rattle.std.proofs.lemmas.Slice.{take-put_mid, drop-put_mid, drop-append-drop}
use Rattle.std.proofs.Math.Seq.{take-add}
use borrow.Rule.Slice.PartMut.{put_mid}
use Rattle.enc_encoder.specs.Writes.{Adds}
use Rattle.enc_encoder.proofs.LeavesLemmas.{same_length, written_bytes, rest_stays}

module _ (slice : List ℕ) (start limit : ℕ) (below : start ≤ limit)
    (within : limit ≤ length slice) where
  abbrev room : ℕ
  room = limit - start

  abbrev part : List ℕ
  part = take room (drop start slice)

  part_length : length part ≡ room
  part_length = rw (length-take, length-drop) (omega (arith, below, within))

  pub adds_in_part : {after bytes : List ℕ} {n : ℕ} → Adds part after 0 n bytes
      → Adds slice (put_mid start room slice after) start (start + n) bytes
  adds_in_part {after} {bytes} {n} adds =
      let others = drop room (drop start slice) in
      let size : length after ≡ room = same_length adds ∙ part_length in
      let fits : n ≤ room = omega (arith, adds.fits, part_length) in
      let put = put_mid start room slice after in
      let end : start + length after ≡ start + room = omega (arith, size) in
      let front : take (start + length after) put ≡ take start slice ++ after =
      take-put_mid start room slice after _ refl (omega (arith, below, within)) in
      let back : drop (start + length after) put ≡ drop (start + length after) slice =
      drop-put_mid start room slice after _ (omega (arith, size)) (omega (arith, below, within))
      size in
      let rest : drop (start + length after) slice ≡ others =
      ap (λ m. drop m slice) end ∙ sym (drop-drop room start slice) in
      let unwritten : drop n part ++ others ≡ drop (start + n) slice =
      sym (drop-append-le n part others (omega (arith, fits, part_length)))
      ∙ ap (drop n) (take-append-drop room (drop start slice)) ∙ drop-drop n start slice in
      record {
        count = omega (arith, adds.count);
        fits = omega (arith, fits, below, within);
        onto = sym (take-append-drop (start + length after) put)
            ∙ rw (front, back, rest) (append_assoc (take start slice) after others)
            ∙ ap (λ x. take start slice ++ (x ++ others)) adds.onto
            ∙ ap (λ x. take start slice ++ x)
            (append_assoc bytes (drop n part) others ∙ ap (λ x. bytes ++ x) unwritten);
      }

-- the front of a slice, up to a limit
module _ (limit : ℕ) {slice after bytes : List ℕ} {n : ℕ} where
  -- what is written to the slice is written to its front
  pub adds_to_front : Adds slice after 0 n bytes → n ≤ limit
      → Adds (take limit slice) (take limit after) 0 n bytes
  adds_to_front adds below =
      let parts : limit ≡ n + (limit - n) = omega (arith, below) in
      record {
        count = adds.count;
        fits = rw length-take (omega (arith, below, adds.fits));
        onto = ap (λ k. take k after) parts ∙ take-add n (limit - n) after
            ∙ rw (written_bytes adds, rest_stays adds) refl
            ∙ ap (λ x. bytes ++ x) (sym (drop-take n (limit - n) slice)
            ∙ ap (λ k. drop n (take k slice)) (sym parts));
      }

  pub past_stays : Adds slice after 0 n bytes → n ≤ limit → drop limit after ≡ drop limit slice
  past_stays adds below =
      ap (drop limit) adds.onto
      ∙ drop-append-drop n slice bytes limit below (omega (arith, adds.count))

  -- what is written to the front is written to the slice
  pub adds_in_front : limit ≤ length slice → Adds (take limit slice) after 0 n bytes
      → Adds slice (after ++ drop limit slice) 0 n bytes
  adds_in_front within adds =
      let others = drop limit slice in
      let part_length : length (take limit slice) ≡ limit =
      rw length-take (omega (arith, within)) in
      record {
        count = adds.count;
        fits = omega (arith, adds.fits, part_length, within);
        onto = ap (λ x. x ++ others) adds.onto
            ∙ append_assoc bytes (drop n (take limit slice)) others
            ∙ ap (λ x. bytes ++ x) (sym (drop-append-le n (take limit slice) others adds.fits)
            ∙ ap (drop n) (take-append-drop limit slice));
      }
