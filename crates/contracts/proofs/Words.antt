-- Each contract of `answer`, `block` and `text` comes to its definition. Assumes nothing.
use mathlib.Core.Path.{refl}
use Rattle.contracts.proofs.Laws.{same, ◌&◌, told, lent, alike}
use Rattle.contracts.specs.Words.{OfAnswer, OfBlock, OfText, Claim}

of_answer : OfAnswer
of_answer = record {
  number = told _ (λ κs a u v. refl) (λ κs a x. alike);
  at = told _ (λ κs a u v. refl) (λ κs a x. alike);
  contour_type_from = told _ (λ κs a u v. refl) (λ κs a x. alike);
  cut_direction_preference_from = told _ (λ κs a u v. refl) (λ κs a x. alike);
  refused = told _ (λ κs a u v. refl) (λ κs a x. alike);
  code = told _ (λ κs a u v. refl) (λ κs a x. alike);
}

of_block : OfBlock
of_block = record {
  byte_at_lem = told _ (λ κs a u v. refl) (λ κs a x. alike);
  u16_at_lem = told _ (λ κs a u v. refl) (λ κs a x. alike);
  u32_at_lem = told _ (λ κs a u v. refl) (λ κs a x. alike);
  u64_at_lem = told _ (λ κs a u v. refl) (λ κs a x. alike);
  f64_at_lem = told _ (λ κs a u v. refl) (λ κs a x. alike);
  starts_as_lem = told _ (λ κs a u v. refl) (λ κs a x. alike);
  check_at_lem = told _ (λ κs a u v. refl) (λ κs a x. alike);
  is_checked_lem = told _ (λ κs a u v. refl) (λ κs a x. alike);
  zeros_at_lem = told _ (λ κs a u v. refl) (λ κs a x. alike);
}

of_text : OfText
of_text = record {
  new = told _ (λ κs a u v. refl) (λ κs a x. alike);
  put_byte_lem = lent (λ κs a x y p q. refl & same p q & refl) (λ κs a x. alike);
  put = lent (λ κs a x y p q. refl & same p q & refl) (λ κs a x. alike);
  put_decimal_lem = lent (λ κs a x y p q. refl & same p q & refl) (λ κs a x. alike);
  put_hex_lem = lent (λ κs a x y p q. refl & same p q & refl) (λ κs a x. alike);
  put_number = lent (λ κs a x y p q. refl & same p q & refl) (λ κs a x. alike);
}

pub claim : Claim
claim = (of_answer, of_block, of_text)
