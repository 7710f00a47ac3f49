-- Hosts: with a table of its own the library tells a host what the tour's question answers. Assumes nothing.
use Rattle.std.specs.Prelude.{Err, Ok}
use Rattle.std.proofs.Common.{◌≡◌, ℕ, List, length, sym, ap, ◌∙◌, arith}
use lib.Ieee.{Float, to_bits, binary64}
use Rattle.answer.specs.Answer.{Answer}
use Rattle.answer.specs.declared.Refusal.{Refusal}
use Rattle.answer.specs.Code.{code_of}
use Rattle.table.specs.Distances.{entry_limit}
use Rattle.solve.specs.declared.Outcome.{Outcome}
use Rattle.tour.specs.Tour.{Left, left, tour_of}
use Rattle.host.specs.Hosts.{hosted, host_tour}
use Rattle.host.specs.Exports.{as_told}
use Rattle.host.proofs.Exports.{toured_so}

-- what the tour's door left behind is what a host is told
module _ (s room : List ℕ) (table : List Float) (whole : length table ≡ entry_limit) (told : Answer Outcome) (after : List ℕ)
    (rest : List Float) (is : left told after rest ≡ tour_of s room table) (moves bits : ℕ) where
  as_told_lem : as_told told after moves bits ≡ host_tour s room moves bits
  as_told_lem =
      ap (λ (l : Left). as_told l.answer l.room moves bits) is
      ∙ sym (toured_so s room table moves bits (omega arith))

  pub host_refused : (r : Refusal) (code : ℕ) → told ≡ Err r → code ≡ code_of (Err r)
      → hosted code after moves bits ≡ host_tour s room moves bits
  host_refused r code e f = rw f (rw e at as_told_lem)

  pub host_done : (o : Outcome) (word : ℕ) → told ≡ Ok o → word ≡ to_bits binary64 o.length
      → hosted 0 after o.moves word ≡ host_tour s room moves bits
  host_done o word e f = rw f (rw e at as_told_lem)
