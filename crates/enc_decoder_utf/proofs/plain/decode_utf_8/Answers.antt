use Rattle.std.proofs.Common.{◌<◌, ◌≤◌, ◌+◌, length, drop, arith}
use Rattle.std.proofs.lemmas.List.{length-drop}
use Rattle.enc_decoder_utf.proofs.PlainLemmas.{goes_past, all_decoded}
use Rattle.enc_decoder_utf.proofs.plain.decode_utf_8.Goals as goal

pub loop-read-preserved : goal.loop-read-preserved
loop-read-preserved c =
    let read = c.loop-read.read in
    let bytes = c.args.bytes.now in
    let some : 0 < length (drop read bytes) = omega (arith, length-drop read bytes) in
    let found = c.first_sequence-found.result in
    let reads_within : read + found.len ≤ length bytes =
    omega (
      arith,
      length-drop read bytes,
      rw c.split_at.ensures.back
          at c.first_sequence-found.ensures.within,
    ) in
    let decoded = goes_past bytes read c.loop-read.text.items c.loop-read.had_errors
    c.loop-read.invariant found.len
    found.character found.malformed some
    (rw c.split_at.ensures.back at c.first_sequence-found.ensures.len)
    (rw c.split_at.ensures.back at c.first_sequence-found.ensures.character)
    (rw c.split_at.ensures.back at c.first_sequence-found.ensures.malformed)
    reads_within in
    let appended = c.in_ok-append.ensures in
    rw appended decoded

pub returns-clause-text : goal.returns-clause-text
returns-clause-text c = (all_decoded c.loop-read.invariant (omega arith)).0

pub returns-clause-had_errors : goal.returns-clause-had_errors
returns-clause-had_errors c = (all_decoded c.loop-read.invariant (omega arith)).1
