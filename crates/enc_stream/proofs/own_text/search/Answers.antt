use Rattle.std.proofs.Common.{◌-◌, ◌∙◌, true, length, drop, arith, length-drop, true≢false}
use Rattle.std.proofs.lemmas.List.{take_all}
use Rattle.enc_stream.specs.LifeCycle.{start_life}
use Rattle.enc_stream.specs.Sniffing.{HasNoMark}
use Rattle.enc_stream.proofs.SniffingLemmas.{reaches_itself}
use Rattle.enc_stream.proofs.WholeInputMark.{without_mark, after_mark}
use Rattle.enc_stream.proofs.own_text.search.Goals as goal

pub returns-then-begins_as_text : goal.returns-then-begins_as_text
returns-then-begins_as_text c =
    let life = start_life c.args.handling c.args.encoding.id in
    let no_mark : HasNoMark life c.args.bytes.now true =
    rw c.first_life-life.ensures at (c.begins_as_text.ensures.text c.if-begins_as_text.true true) in
    let none = without_mark c.args.handling c.args.encoding c.args.bytes.now 0 life
    (reaches_itself life) no_mark in
    record {
      within = omega arith;
      sniffed = rw c.first_life-life.ensures (reaches_itself life, no_mark);
      encoding = none.0;
      rest = none.1;
    }

pub returns-in-Mark : goal.returns-in-Mark
returns-in-Mark c =
    let bytes = c.args.bytes.now in
    let len = c.sniff-sniffed.result.1 in
    let found = after_mark c.args.handling c.args.encoding bytes len c.in-Mark.marked
    c.sniff-sniffed.ensures.within
    (rw (c.first_life-life.ensures, c.in-Mark.is) at c.sniff-sniffed.ensures.sniffed) in
    record {
      within = c.sniff-sniffed.ensures.within;
      sniffed = rw c.first_life-life.ensures at c.sniff-sniffed.ensures.sniffed;
      encoding = found.0;
      rest = take_all (length bytes - len) (drop len bytes)
          (omega (arith, length-drop len bytes)) ∙ found.1;
    }

pub returns-in-Text : goal.returns-in-Text
returns-in-Text c =
    let sniffed = rw (c.first_life-life.ensures, c.in-Text.is) at c.sniff-sniffed.ensures.sniffed in
    let none = without_mark c.args.handling c.args.encoding c.args.bytes.now
    c.sniff-sniffed.result.1 _ sniffed.0 sniffed.1 in
    record {
      within = c.sniff-sniffed.ensures.within;
      sniffed = rw c.first_life-life.ensures at c.sniff-sniffed.ensures.sniffed;
      encoding = none.0;
      rest = none.1;
    }

pub unreachable-requires : goal.unreachable-requires
unreachable-requires c =
    true≢false (rw c.in-Open.is at c.sniff-sniffed.ensures.sniffed).1
