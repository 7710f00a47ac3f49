-- Of the crowded cards heads and checks are computed, all else goes by law; the one with many pairs is fine by its
-- bytes. What the limits from before say of each follows from Before. Assumes nothing.
use Rattle.std.specs.Prelude.{Ok}
use mathlib.Core.Path.{◌≡◌, refl, sym}
use mathlib.Core.List.{List, ◌++◌}
use Prim.Native.Nat.{ℕ, suc, ◌+◌, ◌*◌, ◌≤◌, ◌<◌}
use native.Mathlib.Nat.{le_of_eq}
use lib.Dec.{lit≤, lit<}
use lib.Ieee.{binary64, of_bits}
use lib.ListN.{length, length-replicate}
use Rattle.block.specs.Block.{block_bytes}
use Rattle.closure.specs.Limits.{contour_limit}
use Rattle.fields.specs.Layout.{contours_of, pairs_of}
use Rattle.card.specs.Limits.{before}
use Rattle.card.specs.Verdict.{check_within, check_of}
use Rattle.card_laws.specs.Examples.{job41}
use Rattle.card_laws.specs.Write.{written}
use Rattle.card_laws.proofs.Starred.{verdict_computes, examples}
use Rattle.demands.specs.Demand3.{close_up_to}
use Rattle.filed.specs.Before.{Refuses}
use Rattle.filed.proofs.Before.{claim as limits}
use Rattle.larger.specs.Larger.{crowd, crowded, one_more, fitting, most, repeated, Larger, OnGridAnswered, Claim}
use Rattle.larger.proofs.Blocks.{head_block, contours_from, as_blocks, long, all_say}
use Rattle.larger.proofs.Accepted.{Head, Known, fine, on-grid, answered}

-- ---- crowded cards

known : (n : ℕ) → n ≤ contour_limit → ((rest : List ℕ) → Head (head_block n ++ rest) n) → Known (crowded n) n
known n few head = record {
  few = few;
  long = long n;
  head = rw (as_blocks n) (head (contours_from n 1));
  says = λ k. all_say n k few;
}

-- above the limit on contours, in a file that is not too long
many : (n : ℕ) → Known (crowded n) n → before.contours < n → block_bytes * suc n ≤ before.bytes → Larger n 4 1
many n k h short =
    let sound = fine (crowded n) n k in
    record {
      fine = sound;
      sent_back =
          (limits.reads (crowded n) sound).more_contours (rw (long n) short) (rw k.head.contours h);
    }

-- in one that is
longer : (n : ℕ) → Known (crowded n) n → before.bytes < block_bytes * suc n → Larger n 1 (before.bytes + 1)
longer n k h =
    let sound = fine (crowded n) n k in
    record { fine = sound; sent_back = (limits.reads (crowded n) sound).longer (rw (long n) h) }

on-grid_answered : (n : ℕ) → Known (crowded n) n → close_up_to < n → OnGridAnswered n
on-grid_answered n k h = record {
  above = rw k.head.contours h;
  on-grid = on-grid (crowded n) n k;
  answered = answered (crowded n) n k _ _ (le_of_eq (sym (length-replicate n 0)))
      (le_of_eq (sym (length-replicate (n * n) (of_bits binary64 0))));
}

head_of_one_more : (rest : List ℕ) → Head (head_block one_more ++ rest) one_more
unfolding verdict_computes crowd
head_of_one_more rest = search

known_one_more : Known (crowded one_more) one_more
known_one_more = known one_more (lit≤ tt) head_of_one_more

one_more_lem : Larger one_more 4 1
one_more_lem = many one_more known_one_more (lit< tt) (lit≤ tt)

head_of_fitting : (rest : List ℕ) → Head (head_block fitting ++ rest) fitting
unfolding verdict_computes crowd
head_of_fitting rest = search

longest : Larger fitting 4 1
longest = many fitting (known fitting (lit≤ tt) head_of_fitting) (lit< tt) (lit≤ tt)

head_of_a_block_more : (rest : List ℕ) → Head (head_block (fitting + 1) ++ rest) (fitting + 1)
unfolding verdict_computes crowd
head_of_a_block_more rest = search

a_block_more : Larger (fitting + 1) 1 (before.bytes + 1)
a_block_more = longer (fitting + 1) (known (fitting + 1) (lit≤ tt) head_of_a_block_more) (lit< tt)

head_of_most : (rest : List ℕ) → Head (head_block most ++ rest) most
unfolding verdict_computes crowd
head_of_most rest = search

known_most : Known (crowded most) most
known_most = known most (lit≤ tt) head_of_most

as_many_as_today : Larger most 1 (before.bytes + 1)
as_many_as_today = longer most known_most (lit< tt)

-- ---- many pairs, and job 41

repeated_fine : check_of repeated ≡ Ok tt
unfolding verdict_computes
repeated_fine = refl

short : length repeated ≤ before.bytes
unfolding verdict_computes
short = lit≤ tt

two-contours : contours_of repeated ≤ before.contours
unfolding verdict_computes
two-contours = lit≤ tt

many_pairs : before.pairs < pairs_of repeated
unfolding verdict_computes
many_pairs = lit< tt

repeated_sent_back : Refuses repeated 4 2
repeated_sent_back = (limits.reads repeated repeated_fine).more_pairs short two-contours many_pairs

few_contours : contours_of (written job41) ≤ before.contours
unfolding verdict_computes
few_contours = lit≤ tt

few_pairs : pairs_of (written job41) ≤ before.pairs
unfolding verdict_computes
few_pairs = lit≤ tt

job41-taken : check_within before (written job41) ≡ Ok tt
job41-taken = (limits.reads (written job41) examples.job41_fine).not_larger few_contours few_pairs

pub claim : Claim
claim = (
  record {
    one_more_lem = one_more_lem;
    longest = longest;
    a_block_more = a_block_more;
    as_many_as_today = as_many_as_today;
    repeated_fine = repeated_fine;
    repeated_sent_back = repeated_sent_back;
    job41-taken = job41-taken;
  },
  (on-grid_answered one_more known_one_more (lit< tt), on-grid_answered most known_most (lit< tt)),
)
