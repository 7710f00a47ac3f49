-- The scope document's examples of cards, computed from the definition. Assumes nothing.
use mathlib.Core.Path.{refl}
use lib.Ieee.{of_bits, of_fields, odd, size, span, climb, round, units, to_bits}
use lib.Count.{count_trailing_zeros}
use Rattle.answer.specs.Lowest.{lowest, lowest_from}
use Rattle.answer.specs.Stage.{first_refusal}
use Rattle.block.specs.Field.{u16_at, u32_at, u64_at, f64_at}
use Rattle.block.specs.Block.{weigh, check_at, checked, starts, all_zero, zeros_at}
use Rattle.closure.specs.Pairs.{paired, some_of}
use Rattle.closure.specs.Cycle.{linked, leads}
use Rattle.card.specs.Stages.{length_fault_within, check_fault, start_fault, head_fault_within, count_fault, contour_fault}
use Rattle.card.specs.Stages.{spare_fault}
use Rattle.card.specs.Stages.{far_vertex, far_fault, seek_of, repeat_fault, name_fault, tag_fault}
use Rattle.card.specs.Rules.{enclosing_of, rules_of}
use Rattle.card.specs.Names.{seats_of}
use Rattle.card.specs.Verdict.{cycle_fault_within, check_within}
use Rattle.block.specs.Write.{bytes, block_of}
use Rattle.card_laws.specs.Write.{number_bytes, point_bytes, head_bytes, points_bytes, front_bytes, contour_bytes}
use Rattle.card_laws.specs.Write.{contour_blocks, pair_bytes, pair_blocks, written}
use Rattle.card_laws.specs.Examples.{Examples}

-- what a card written out and its verdict are computed through: to unfold this name, here or in a crate above, is to
-- unfold all of these. A definition that the verdict comes to need is added here only
unfoldable pub verdict_computes : Unit {0}
unfolding check_within first_refusal length_fault_within check_fault start_fault head_fault_within count_fault contour_fault
    spare_fault far_vertex far_fault seek_of repeat_fault name_fault tag_fault cycle_fault_within
    seats_of enclosing_of rules_of lowest lowest_from u16_at u32_at u64_at f64_at weigh check_at checked starts all_zero zeros_at
    paired some_of linked leads
    bytes block_of number_bytes point_bytes head_bytes points_bytes front_bytes contour_bytes contour_blocks pair_bytes
    pair_blocks written
    of_bits of_fields odd size span climb round units count_trailing_zeros to_bits
verdict_computes = tt

pub examples : Examples
unfolding verdict_computes
examples = record { empty = refl; pair_of_nobody = refl; job41_fine = refl; on_itself = refl; on_a_cycle = refl }
