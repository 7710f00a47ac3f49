-- Each contract of the doors comes to its definition. Assumes nothing.
use mathlib.Core.Path.{ap, refl}
use Rattle.contracts.proofs.Laws.{same, ◌&◌, told, lent, alike}
use Rattle.contracts.specs.Doors.{OfQuestions, OfTour, OfFeed, OfList, OfHost, Claim}

of_questions : OfQuestions
of_questions = record {
  order_check_lem = told _ (λ κs a u v. refl) (λ κs a x. alike);
  evaluate = told _ (λ κs a u v. refl) (λ κs a x. alike);
  solve_nn_lem = told _ (λ κs a u v. refl) (λ κs a x. alike);
  candidate = told _ (λ κs a u v. refl) (λ κs a x. alike);
  locate = told _ (λ κs a u v. refl) (λ κs a x. alike);
  global_to_local_lem = told _ (λ κs a u v. refl) (λ κs a x. alike);
  local_to_global_lem = told _ (λ κs a u v. refl) (λ κs a x. alike);
}

of_tour : OfTour
of_tour = record {
  tour = lent
      (λ κs a x y p q. ap (λ z. z.answer) (same p q) & refl & ap (λ z. z.room) (same p q) &
      ap (λ z. z.table) (same p q) & refl)
      (λ κs a x. alike);
  bits_of = told _ (λ κs a u v. refl) (λ κs a x. alike);
}

of_feed : OfFeed
of_feed = record {
  begin = told _ (λ κs a u v. refl) (λ κs a x. alike);
  add = lent
      (λ κs a x y p q. ap (λ z. z.answer) (same p q) & ap (λ z. z.feed) (same p q) & ap (λ z. z.held) (same p q) & refl)
      (λ κs a x. alike);
  ask = lent
      (λ κs a x y p q. ap (λ z. z.left.answer) (same p q) & ap (λ z. z.feed) (same p q) & refl &
      ap (λ z. z.left.room) (same p q) & ap (λ z. z.left.table) (same p q) & refl)
      (λ κs a x. alike);
}

of_list : OfList
of_list = record {
  write_list_lem = lent (λ κs a x y p q. same p.1 q.1 & refl & same p.0 q.0 & refl) (λ κs a x. alike);
  show_card_lem = lent (λ κs a x y p q. refl) (λ κs a x. alike);
}

of_host : OfHost
of_host = record {
  jl_check_lem = told _ (λ κs a u v. refl) (λ κs a x. alike);
  jl_tour_lem = lent
      (λ κs a x y p q. ap (λ z. z.answer) (same p q) & refl & ap (λ z. z.room) (same p q) &
      ap (λ z. z.moves) (same p q) & ap (λ z. z.bits) (same p q) & refl)
      (λ κs a x. alike);
  jl_place_lem = lent
      (λ κs a x y p q. ap (λ z. z.answer) (same p q) & refl & refl & ap (λ z. z.contour) (same p q) &
      ap (λ z. z.within) (same p q) & refl)
      (λ κs a x. alike);
  jl_feed_lem = lent
      (λ κs a x y p q. ap (λ z. z.answer) (same p q) & ap (λ z. z.state) (same p q) &
      ap (λ z. z.held) (same p q) & refl)
      (λ κs a x. alike);
  jl_ask_lem = lent
      (λ κs a x y p q. ap (λ z. z.told.answer) (same p q) & ap (λ z. z.state) (same p q) & refl &
      ap (λ z. z.told.room) (same p q) & ap (λ z. z.told.moves) (same p q) &
      ap (λ z. z.told.bits) (same p q) & refl)
      (λ κs a x. alike);
  jl_bridges_lem = lent
      (λ κs a x y p q. ap (λ z. z.answer) (same p q) & refl & refl & refl & ap (λ z. z.room) (same p q) & refl)
      (λ κs a x. alike);
}

pub claim : Claim
claim = (of_questions, of_tour, of_feed, of_list, of_host)
