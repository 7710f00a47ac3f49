-- `block::starts_as` meets its contract. Assumes nothing.
use native.Mathlib.Omega.{arith}
use Rattle.std.proofs.lemmas.Bool.Decides.{nat_tests}
use Rattle.block.specs.Block.{starts}
use Rattle.block.proofs.BlockLaws.{starts-past}
use Rattle.block.proofs.starts_as.Goals as goal
use Rattle.block.proofs.starts_as.Goals.{then-kind-eq0, else-kind-eq0, then-byte_at-kind, else-byte_at-kind}
use Rattle.block.proofs.starts_as.Goals.{then-byte_at-version, else-byte_at-version}

pub returns-then-version-eq0 : goal.returns-then-version-eq0
returns-then-version-eq0 c = grind (arith, nat_tests, starts-past)

pub returns-else-version-eq0 : goal.returns-else-version-eq0
returns-else-version-eq0 c = elim c.if-kind-eq0.branch [
  | then-kind-eq0 w ↦ grind (arith, nat_tests, starts-past)
  | else-kind-eq0 w ↦ grind (arith, nat_tests, starts-past)
]

pub returns-then-from-number : goal.returns-then-from-number
unfolding starts
returns-then-from-number c = elim c.if-byte_at-version.branch [
  | then-byte_at-version v ↦ elim c.if-byte_at-kind.branch [
    | then-byte_at-kind k ↦ grind (arith, nat_tests)
    | else-byte_at-kind k ↦ grind (arith, nat_tests)
  ]
  | else-byte_at-version v ↦ grind (arith, nat_tests)
]

pub returns-else-from-number : goal.returns-else-from-number
unfolding starts
returns-else-from-number c = elim c.if-byte_at-version.branch [
  | then-byte_at-version w ↦ elim c.if-byte_at-kind.branch [
    | then-byte_at-kind m ↦ grind (arith, nat_tests)
    | else-byte_at-kind m ↦ grind (arith, nat_tests)
  ]
  | else-byte_at-version w ↦ elim c.if-byte_at-kind.branch [
    | then-byte_at-kind n ↦ grind (arith, nat_tests)
    | else-byte_at-kind n ↦ grind (arith, nat_tests)
  ]
]
