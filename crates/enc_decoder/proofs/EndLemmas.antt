-- Sequences that only the end of the input determines, for every rule.
use Rattle.std.proofs.Common.{◌≡◌, ℕ, ◌+◌, ◌≤◌, List, ◌++◌, length, ◌∙◌, sym, subst}
use Rattle.enc_decoder.specs.Segmentation.{Head, Rule}
use Rattle.enc_decoder.specs.Remainder.{AreBytes}
use Rattle.enc_decoder.specs.RuleLaws.{IsDeterminedByEnd}

-- if some bytes more make another sequence of them
pub by_end_of : (rule : Rule) (set b : ℕ) (z more : List ℕ) {h k : Head}
    → rule set b z ≡ h → rule set b (z ++ more) ≡ k → (k ≡ h → ⊥) → AreBytes more
    → h.more ≤ length z → length z ≤ h.more + 3 → IsDeterminedByEnd rule set b z
by_end_of rule set b z more {h} is_head becomes differ are_bytes within near = record {
  within = subst (λ (t : Head). t.more ≤ length z) (sym is_head) within;
  more = more;
  bytes = are_bytes;
  other = λ same. differ (sym becomes ∙ same ∙ is_head);
  near = subst (λ (t : Head). length z ≤ t.more + 3) (sym is_head) near;
}
