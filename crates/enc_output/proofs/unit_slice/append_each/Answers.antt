use Rattle.std.proofs.Common.{◌≡◌, ◌∙◌, ℕ, ◌+◌, ◌≤◌, List, drop, ap, arith}
use Rattle.enc_output.specs.Output.{Output}
use Rattle.enc_output.specs.PieceRuns.{PutsPieces}
use Rattle.enc_output.proofs.PiecesLemmas.{then_rest, then_one, puts_as}
use Rattle.enc_output.proofs.unit_slice.append_each.Goals as goal

module _ {units_of : ℕ → List ℕ} {Means Other : List ℕ → ℕ → Type 0} {src rest : List ℕ}
    {at own n : ℕ} where
  -- the characters of a window, where no ASCII comes first
  window_puts : {before start mid after : Output}
      → ((bytes : List ℕ) (c : ℕ) → Other bytes c → Means bytes c) → rest ≡ drop at src → own ≤ 0
      → PutsPieces units_of Means before start src at
      → PutsPieces units_of Means start mid rest own → PutsPieces units_of Other mid after rest n
      → PutsPieces units_of Means before after src (at + own + n)
  window_puts {mid = mid} {after} same rest_is none so_far ascii window =
      then_rest (rest_is ∙ ap (λ k. drop k src) (omega arith)) (then_rest rest_is so_far ascii)
      (puts_as units_of Other Means mid after rest n same window)

pub loop-at-preserved-then-own-gt0 : goal.loop-at-preserved-then-own-gt0
loop-at-preserved-then-own-gt0 g c =
    then_rest c.split_at.ensures.back c.loop-at.invariant c.append_own-own.ensures

pub loop-at-preserved-then-more-gt0 : goal.loop-at-preserved-then-more-gt0
loop-at-preserved-then-more-gt0 g c =
    window_puts c.requires.same c.split_at.ensures.back c.if-own-gt0.false c.loop-at.invariant
    c.append_own-own.ensures c.append_window-more.ensures

pub loop-at-preserved : goal.loop-at-preserved
loop-at-preserved g c =
    let so_far : PutsPieces g.U.UnitSlice.units_of (g.P.Pieces.means c.args.pieces)
    (g.U.UnitSlice.output c.args.out.now) (g.U.UnitSlice.output c.if-rest-lt-NEAR.out)
    c.args.src.now c.if-rest-lt-NEAR.at =
    elim c.if-rest-lt-NEAR.branch [
      | goal.then-rest-lt-NEAR+else-more-gt0 w ↦
          rw (w.out-is, w.at-is)
          (window_puts c.requires.same c.split_at.ensures.back c.if-own-gt0.false
          c.loop-at.invariant c.append_own-own.ensures w.append_window-more.ensures)
      | goal.else-rest-lt-NEAR w ↦
          rw (w.out-is, w.at-is)
          (then_rest c.split_at.ensures.back c.loop-at.invariant c.append_own-own.ensures)
    ] in
    let found = c.in-Some.ensures in
    let written = c.append_char.ensures in
    let was_written = c.if-not-append_char.false in
    then_one _ so_far found.some found.within found.means written.scalar written.fits was_written
    (written.written was_written)
