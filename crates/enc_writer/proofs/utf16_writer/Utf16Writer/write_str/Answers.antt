use Rattle.std.proofs.Common.{rules, ◌≡◌, ◌∙◌, [], ◌++◌, chars, drop, take, refl, ap, sym}
use Rattle.std.proofs.Common.{append_assoc, append-nil, length, arith}
use Rattle.std.proofs.lemmas.List.{take-append-drop}
use Rattle.std.proofs.lemmas.Grind.{common_steps}
use Rattle.std.proofs.lemmas.Str.{chars-append, chars-nil, IsUtf8-take}
use Rattle.enc_writer.specs.Utf16Writer.{utf16_writer_of}
use Rattle.enc_writer.proofs.SinkLemmas.{on_err}
use Rattle.enc_writer.proofs.Utf16WritingLemmas.{stops_by, stops_none, writes_by, written_none, written_then}
use Rattle.enc_writer.proofs.utf16_writer.Utf16Writer.write_str.Goals as goal

pub returns-then-self-clause-err : goal.returns-then-self-clause-err
returns-then-self-clause-err g c =
    stops_none _ (utf16_writer_of c.args.self.now) (chars c.args.text.now)

pub pieces-init : goal.pieces-init
pieces-init g c = (
  search rules,
  record {
    front = [];
    parts = refl;
    written = written_none _ (utf16_writer_of c.args.self.now);
    going = c.if-self.false;
    kept = refl;
    same_writer = refl;
  },
)

pub returns-in_err-make_room-clause-err : goal.returns-in_err-make_room-clause-err
returns-in_err-make_room-clause-err g c =
    let before = c.pieces.invariant.1 in
    on_err c.from_residual.result _
    (stops_by (chars c.pieces.rest.now) before.written before.parts c.in_err-make_room.ensures.err)

pub pieces-preserved : goal.pieces-preserved
pieces-preserved g c =
    let before = c.pieces.invariant.1 in
    let rest = c.pieces.rest.now in
    let read = c.store-read.result in (
      search rules,
      record {
        front = before.front ++ ([] ++ chars (take read rest));
        parts = before.parts ∙ ap (λ z. before.front ++ z)
            (ap chars (sym (take-append-drop read rest))
            ∙ chars-append (take read rest) (drop read rest)
            (IsUtf8-take rest read c.pieces.invariant.0 c.store-read.ensures.boundary)
            ∙ ap (λ z. chars (take read rest) ++ chars z) (sym c.split_at.ensures.back))
            ∙ sym (append_assoc before.front (chars (take read rest)) _);
        written = written_then before.written
            (written_then c.in_ok-make_room.ensures.ok c.store-read.ensures.stored);
        going = search rules;
        kept = search rules;
        same_writer = search rules;
      },
    )

pub returns-clause-ok : goal.returns-clause-ok
returns-clause-ok g c =
    let done = c.pieces.invariant.1 in
    let empty : c.pieces.rest.now ≡ [] = grind (arith, common_steps) in
    let all : done.front ≡ chars c.args.text.now =
    sym (done.parts ∙ ap (λ z. done.front ++ chars z) empty
    ∙ ap (λ z. done.front ++ z) chars-nil ∙ append-nil done.front) in
    rw all at (writes_by done.written)
