-- EUC-KR gives each character back.
-- Written by scripts/make-sources from data/templates: change the text there, and not this file.
use Rattle.std.proofs.Common.{◌≡◌, ℕ, ◌+◌, ◌/◌, ◌%◌, Some, ap, ◌∙◌, arith}
use Rattle.std.proofs.lemmas.Bool.{cond-true}
use Rattle.std.proofs.lemmas.Bool.Decides.{nat_tests}
use Rattle.enc_index.specs.Runs.{euc_kr_at}
use Rattle.enc_index_pointers.specs.Pointers.{euc_kr_pointer, any_pointer, no_character}
use Rattle.enc_decoder_multi_byte.specs.DoubleByte.{text_of_char}
use Rattle.enc_decoder.specs.Prefixes.{prefix_rule}
use Rattle.enc_decoder_multi_byte.specs.EucKr as euc_kr
use Rattle.enc_encode.specs.EucKr.{euc_kr_bytes}
use Rattle.enc_round_trip.proofs.ReadBackLemmas.{IsReadBack}
use Rattle.enc_round_trip.proofs.PointerLemmas.{is_pointer}
use Rattle.enc_round_trip.proofs.DoubleByteBack.{within, IsPair, by_pairs}

pointer_is : (p : ℕ) → euc_kr.euc_kr_pair_pointer (p / 190 + 0x81) (p % 190 + 0x41) ≡ p
pointer_is p = omega arith

has_pair : (c p : ℕ) → euc_kr_pointer c ≡ Some p
    → IsPair euc_kr.is_euc_kr_lead euc_kr.euc_kr_pair_text (p / 190 + 0x81) (p % 190 + 0x41) c
unfolding euc_kr_pointer
has_pair c p found =
    let has_pointer = is_pointer euc_kr_at any_pointer no_character 23940 c p found in
    let below = has_pointer.below in record {
      leads = within 0x81 0xFE (p / 190 + 0x81) (omega arith) (omega arith);
      has =
          ap text_of_char (cond-true _ _ _
          (within 0x41 0xFE (p % 190 + 0x41) (omega arith) (omega arith))
          ∙ ap euc_kr_at (pointer_is p) ∙ has_pointer.has);
    }

pub euc_kr_is_read : IsReadBack (prefix_rule euc_kr.euc_kr_prefix) euc_kr_bytes (λ c. c)
euc_kr_is_read =
    by_pairs euc_kr.is_euc_kr_lead euc_kr.euc_kr_pair_text (λ p. p / 190 + 0x81)
    (λ p. p % 190 + 0x41) euc_kr_pointer
    (λ b l. grind (arith, nat_tests)) has_pair
