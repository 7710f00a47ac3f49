-- Each contract of `fields`, `card` and `reader` comes to its definition. Assumes nothing.
use mathlib.Core.Path.{refl}
use Rattle.contracts.proofs.Laws.{same, ◌&◌, told, lent, by_hand, lent_by_hand, alike}
use Rattle.contracts.specs.Cards.{OfFields, OfCard, OfReader, OfReaderByHand, Claim}

of_fields_lem : OfFields
of_fields_lem = record {
  version = told _ (λ κs a u v. refl) (λ κs a x. alike);
  is_two_lem = told _ (λ κs a u v. refl) (λ κs a x. alike);
  job = told _ (λ κs a u v. refl) (λ κs a x. alike);
  contours = told _ (λ κs a u v. refl) (λ κs a x. alike);
  pairs = told _ (λ κs a u v. refl) (λ κs a x. alike);
  per_contour_lem = told _ (λ κs a u v. refl) (λ κs a x. alike);
  passes = told _ (λ κs a u v. refl) (λ κs a x. alike);
  move_limit_lem = told _ (λ κs a u v. refl) (λ κs a x. alike);
  home = told _ (λ κs a u v. refl) (λ κs a x. alike);
  exterior = told _ (λ κs a u v. refl) (λ κs a x. alike);
  interior = told _ (λ κs a u v. refl) (λ κs a x. alike);
  grid = told _ (λ κs a u v. refl) (λ κs a x. alike);
  asks_grid_lem = told _ (λ κs a u v. refl) (λ κs a x. alike);
  contour_offset_lem = told _ (λ κs a u v. refl) (λ κs a x. alike);
  pair_offset_lem = told _ (λ κs a u v. refl) (λ κs a x. alike);
  contour_byte_lem = told _ (λ κs a u v. refl) (λ κs a x. alike);
  id = told _ (λ κs a u v. refl) (λ κs a x. alike);
  tag = told _ (λ κs a u v. refl) (λ κs a x. alike);
  vertices = told _ (λ κs a u v. refl) (λ κs a x. alike);
  contour_type_lem = told _ (λ κs a u v. refl) (λ κs a x. alike);
  part = told _ (λ κs a u v. refl) (λ κs a x. alike);
  copy = told _ (λ κs a u v. refl) (λ κs a x. alike);
  vertex = told _ (λ κs a u v. refl) (λ κs a x. alike);
  before_id = told _ (λ κs a u v. refl) (λ κs a x. alike);
  before_tag = told _ (λ κs a u v. refl) (λ κs a x. alike);
  after_id_lem = told _ (λ κs a u v. refl) (λ κs a x. alike);
  after_tag = told _ (λ κs a u v. refl) (λ κs a x. alike);
}

of_card : OfCard
of_card = record {
  position_of_lem = told _ (λ κs a u v. refl) (λ κs a x. alike);
  pair_places_lem = told _ (λ κs a u v. refl) (λ κs a x. alike);
  check = told _ (λ κs a u v. refl) (λ κs a x. alike);
}

of_reader : OfReader
of_reader = record {
  field_at_lem = told _ (λ κs a u v. refl) (λ κs a x. alike);
  left_at = told _ (λ κs a u v. refl) (λ κs a x. alike);
  read_field_lem = told _ (λ κs a u v. refl) (λ κs a x. alike);
  read_head = told _ (λ κs a u v. refl) (λ κs a x. alike);
  read_grid_lem = told _ (λ κs a u v. refl) (λ κs a x. alike);
  contour_head_lem = told _ (λ κs a u v. refl) (λ κs a x. alike);
  read_contour_lem = told _ (λ κs a u v. refl) (λ κs a x. alike);
  read_pair_lem = told _ (λ κs a u v. refl) (λ κs a x. alike);
  new = told _ (λ κs a u v. refl) (λ κs a x. alike);
  moved = told _ (λ κs a u v. refl) (λ κs a x. alike);
  next = lent (λ κs a x y p q. same p.0 q.0 & same p.1 q.1 & refl) (λ κs a x. alike);
  left = told _ (λ κs a u v. refl) (λ κs a x. alike);
}

of_reader_by_hand : OfReaderByHand
of_reader_by_hand = record {
  new = by_hand _ (λ κs a u v. refl) (λ κs a x. alike);
  moved = by_hand _ (λ κs a u v. refl) (λ κs a x. alike);
  next = lent_by_hand _ (λ κs a x y p q. same p.0 q.0 & same p.1 q.1 & refl) (λ κs a x. alike);
  left = by_hand _ (λ κs a u v. refl) (λ κs a x. alike);
}

pub claim : Claim
claim = (of_fields_lem, of_card, of_reader, of_reader_by_hand)
