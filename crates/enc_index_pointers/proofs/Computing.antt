-- One name to unfold where a proof computes with pages.
use Rattle.enc_index.proofs.GridTests.{all_at}
use Rattle.enc_index_pointers.proofs.TreeLemmas.{plant, look, number_in_tree}
use Rattle.enc_index_pointers.proofs.PageLemmas.{tables_ok, all_below, place_ok, page_ok, blank_ok, entry_ok}
use Rattle.enc_index_pointers.proofs.DirectLemmas.{byte_ok, direct_ok}

-- `unfolding tests` opens the tests of pages
unfoldable pub tests : Unit {0}
unfolding plant look tables_ok all_below all_at place_ok page_ok blank_ok number_in_tree entry_ok
    byte_ok direct_ok
tests = tt
