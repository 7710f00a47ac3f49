-- Twins are answered alike. Assumes nothing.
use mathlib.Core.Path.{ap}
use Rattle.answer.specs.Code.{code_of}
use Rattle.answer.specs.Answer.{Answer}
use Rattle.questions.specs.declared.Local.{Local}
use Rattle.host.specs.Hosts.{host_place}
use Rattle.parts.specs.Twins.{Claim}
use Rattle.parts.proofs.VerdictLaws.{same_verdict}
use Rattle.parts.proofs.SearchLaws.{same_prepared, same_tour, same_list}
use Rattle.parts.proofs.DoorLaws.{same_evaluated, same_picked, same_located, same_global, same_nearest}
use Rattle.parts.proofs.DoorLaws.{same_host_tour}

pub claim : Claim
claim s t w = record {
  check = same_verdict s t w;
  prepare = same_prepared s t w;
  tour = same_tour s t w;
  evaluate = same_evaluated s t w;
  candidate = same_picked s t w;
  global_to_local_lem = same_located s t w;
  local_to_global_lem = same_global s t w;
  solve_nn_lem = same_nearest s t w;
  write_list_lem = same_list s t w;
  jl_check_lem = ap code_of (same_verdict s t w);
  jl_tour_lem = same_host_tour s t w;
  jl_place_lem = λ a contour within. ap (λ (l : Answer Local). host_place l contour within) (same_located s t w a);
}
