-- What the contracts of the doors come to: see Contract. Assumes nothing.
use Rattle.std.specs.Prelude.{◌≡◌, min, length}
use Rattle.card.specs.Verdict.{check_of}
use Rattle.questions.specs.Order.{order_check, evaluated}
use Rattle.questions.specs.Nearest.{nearest_of}
use Rattle.questions.specs.Index.{picked_of, place_in, located_of, global_of}
use Rattle.std.specs.Float.Ieee.{to_bits}
use Rattle.std.specs.Float.{binary64}
use Rattle.tour.specs.Tour.{left, tour_of}
use Rattle.feed.specs.Feed.{begun, stored, add_of, reply, ask_of}
use Rattle.text.specs.Page.{over}
use Rattle.list.specs.Lines.{list_of}
use Rattle.answer.specs.Code.{code_of}
use Rattle.host.specs.Hosts.{hosted, host_tour, pointed, host_place}
use Rattle.host.specs.Bridges.{spanned, host_bridges}
use Rattle.host.specs.Feeds.{host_fed, host_feed, host_asked, host_ask}
use Rattle.questions.specs.contracts as Questions
use Rattle.questions.proofs as QuestionsProofs
use Rattle.tour.specs.contracts as Tour
use Rattle.tour.proofs as TourProofs
use Rattle.feed.specs.contracts as Feed
use Rattle.feed.proofs as FeedProofs
use Rattle.list.specs.contracts as List
use Rattle.list.proofs as ListProofs
use Rattle.host.specs.contracts as Host
use Rattle.host.proofs as HostProofs
use Rattle.contracts.specs.Contract.{Says}

-- questions
pub record OfQuestions : Type 0 where
  pub order_check_lem : Says Questions.order_check.ended QuestionsProofs.order_check.Reads.Asked
      QuestionsProofs.order_check.Reads.Learnt
      (λ _ n owner t order r. r ≡ order_check n owner.now t order.now)
  pub evaluate : Says Questions.evaluate.ended QuestionsProofs.evaluate.Reads.Asked
      QuestionsProofs.evaluate.Reads.Learnt
      (λ _ card order r. r ≡ evaluated card.now order.now)
  pub solve_nn_lem : Says Questions.solve_nn.ended QuestionsProofs.solve_nn.Reads.Asked
      QuestionsProofs.solve_nn.Reads.Learnt
      (λ _ card r. r ≡ nearest_of card.now)
  pub candidate : Says Questions.candidate.ended QuestionsProofs.candidate.Reads.Asked
      QuestionsProofs.candidate.Reads.Learnt
      (λ _ card number r. r ≡ picked_of card.now number)
  pub locate : Says Questions.locate.ended QuestionsProofs.locate.Reads.Asked QuestionsProofs.locate.Reads.Learnt
      (λ _ all a r. r ≡ place_in all a)
  pub global_to_local_lem : Says Questions.global_to_local.ended QuestionsProofs.global_to_local.Reads.Asked
      QuestionsProofs.global_to_local.Reads.Learnt
      (λ _ card number r. r ≡ located_of card.now number)
  pub local_to_global_lem : Says Questions.local_to_global.ended QuestionsProofs.local_to_global.Reads.Asked
      QuestionsProofs.local_to_global.Reads.Learnt
      (λ _ card contour within r. r ≡ global_of card.now contour within)

-- tour
pub record OfTour : Type 0 where
  pub tour : Says Tour.tour.ended TourProofs.tour.Reads.Asked TourProofs.tour.Reads.Learnt
      (λ _ card room table r room' table'. left r room' table' ≡ tour_of card.now room.now table.now)
  pub bits_of : Says Tour.bits_of.ended TourProofs.bits_of.Reads.Asked TourProofs.bits_of.Reads.Learnt
      (λ _ x r. r ≡ to_bits binary64 x)

-- feed
pub record OfFeed : Type 0 where
  pub begin : Says Feed.Feed.begin.ended FeedProofs.Feed.begin.Reads.Asked FeedProofs.Feed.begin.Reads.Learnt
      (λ _ r. r ≡ begun)
  pub add : Says Feed.Feed.add.ended FeedProofs.Feed.add.Reads.Asked FeedProofs.Feed.add.Reads.Learnt
      (λ _ f held piece r f' held'. stored f' r held' ≡ add_of f.now held.now piece.now)
  pub ask : Says Feed.Feed.ask.ended FeedProofs.Feed.ask.Reads.Asked FeedProofs.Feed.ask.Reads.Learnt
      (λ _ f held room table r f' room' table'.
      reply f' r room' table' ≡ ask_of f.now held.now room.now table.now)

-- list
pub record OfList : Type 0 where
  pub write_list_lem : Says List.write_list.ended ListProofs.write_list.Reads.Asked ListProofs.write_list.Reads.Learnt
      (λ _ card page r page'.
      (page' ≡ over (list_of card.now) page.now) × (r ≡ min (length (list_of card.now)) (length page.now)))
  pub show_card_lem : Says List.show_card.ended ListProofs.show_card.Reads.Asked ListProofs.show_card.Reads.Learnt
      (λ _ _ _ _. Unit {0})

-- host
pub record OfHost : Type 0 where
  pub jl_check_lem : Says Host.jl_check.ended HostProofs.jl_check.Reads.Asked HostProofs.jl_check.Reads.Learnt
      (λ _ card r. r ≡ code_of (check_of card.now))
  pub jl_tour_lem : Says Host.jl_tour.ended HostProofs.jl_tour.Reads.Asked HostProofs.jl_tour.Reads.Learnt
      (λ _ card tour moves length_bits r tour' moves' length_bits'.
      hosted r tour' moves' length_bits' ≡ host_tour card.now tour.now moves.now length_bits.now)
  pub jl_place_lem : Says Host.jl_place.ended HostProofs.jl_place.Reads.Asked HostProofs.jl_place.Reads.Learnt
      (λ _ card candidate contour within r contour' within'.
      pointed r contour' within' ≡ host_place (located_of card.now candidate) contour.now within.now)
  pub jl_feed_lem : Says Host.jl_feed.ended HostProofs.jl_feed.Reads.Asked HostProofs.jl_feed.Reads.Learnt
      (λ _ state held piece r state' held'. host_fed r state' held' ≡ host_feed state.now held.now piece.now)
  pub jl_ask_lem : Says Host.jl_ask.ended HostProofs.jl_ask.Reads.Asked HostProofs.jl_ask.Reads.Learnt
      (λ _ state held tour moves length_bits r state' tour' moves' length_bits'.
      host_asked state' (hosted r tour' moves' length_bits')
      ≡ host_ask state.now held.now tour.now moves.now length_bits.now)
  pub jl_bridges_lem : Says Host.jl_bridges.ended HostProofs.jl_bridges.Reads.Asked HostProofs.jl_bridges.Reads.Learnt
      (λ _ contour width centres room r room'.
      spanned r room' ≡ host_bridges contour.now width centres.now room.now)

abbrev pub Claim : Type 0
Claim = OfQuestions × OfTour × OfFeed × OfList × OfHost
