-- What the contracts of `answer`, `block` and `text` come to: see Contract. Assumes nothing.
use Rattle.std.specs.Prelude.{◌≡◌, ◌++◌, Err}
use Rattle.answer.specs.Code.{code_of}
use Rattle.answer.specs.Fault.{number_of}
use Rattle.answer.specs.Kinds.{as_type, as_preference}
use Rattle.block.specs.Field.{byte_at, u16_at, u32_at, u64_at, f64_at}
use Rattle.block.specs.Block.{check_at, checked, starts, zeros_at}
use Rattle.text.specs.Page.{put_byte, put as put_text}
use Rattle.text.specs.OnPage.{laid, left}
use Rattle.text.specs.Text.{decimal_of, hex_of}
use Rattle.answer.specs.contracts as Answer
use Rattle.answer.proofs as AnswerProofs
use Rattle.block.specs.contracts as Block
use Rattle.block.proofs as BlockProofs
use Rattle.text.specs.contracts as Text
use Rattle.text.proofs as TextProofs
use Rattle.contracts.specs.Contract.{Says}

-- answer
pub record OfAnswer : Type 0 where
  pub number : Says Answer.Fault.number.ended AnswerProofs.Fault.number.Reads.Asked AnswerProofs.Fault.number.Reads.Learnt
      (λ _ f r. r ≡ number_of f)
  pub at : Says Answer.Fault.at.ended AnswerProofs.Fault.at.Reads.Asked AnswerProofs.Fault.at.Reads.Learnt
      (λ _ f place r. r ≡ record { number = number_of f; place = place })
  pub contour_type_from : Says Answer.ContourTypeFromU8.from.ended AnswerProofs.ContourTypeFromU8.from.Reads.Asked
      AnswerProofs.ContourTypeFromU8.from.Reads.Learnt
      (λ _ b r. r ≡ as_type b)
  pub cut_direction_preference_from : Says Answer.CutDirectionPreferenceFromU8.from.ended
      AnswerProofs.CutDirectionPreferenceFromU8.from.Reads.Asked
      AnswerProofs.CutDirectionPreferenceFromU8.from.Reads.Learnt
      (λ _ b r. r ≡ as_preference b)
  pub refused : Says Answer.refused.ended AnswerProofs.refused.Reads.Asked AnswerProofs.refused.Reads.Learnt
      (λ _ number place r. r ≡ Err (record { number = number; place = place }))
  pub code : Says Answer.code.ended AnswerProofs.code.Reads.Asked AnswerProofs.code.Reads.Learnt
      (λ _ c r. r ≡ code_of c)

-- block
pub record OfBlock : Type 0 where
  pub byte_at_lem : Says Block.byte_at.ended BlockProofs.byte_at.Reads.Asked BlockProofs.byte_at.Reads.Learnt
      (λ _ s at r. r ≡ byte_at s.now at)
  pub u16_at_lem : Says Block.u16_at.ended BlockProofs.u16_at.Reads.Asked BlockProofs.u16_at.Reads.Learnt
      (λ _ s at r. r ≡ u16_at s.now at)
  pub u32_at_lem : Says Block.u32_at.ended BlockProofs.u32_at.Reads.Asked BlockProofs.u32_at.Reads.Learnt
      (λ _ s at r. r ≡ u32_at s.now at)
  pub u64_at_lem : Says Block.u64_at.ended BlockProofs.u64_at.Reads.Asked BlockProofs.u64_at.Reads.Learnt
      (λ _ s at r. r ≡ u64_at s.now at)
  pub f64_at_lem : Says Block.f64_at.ended BlockProofs.f64_at.Reads.Asked BlockProofs.f64_at.Reads.Learnt
      (λ _ s at r. r ≡ f64_at s.now at)
  pub starts_as_lem : Says Block.starts_as.ended BlockProofs.starts_as.Reads.Asked BlockProofs.starts_as.Reads.Learnt
      (λ _ s at kind version number r. r ≡ starts s.now at kind version number)
  pub check_at_lem : Says Block.check_at.ended BlockProofs.check_at.Reads.Asked BlockProofs.check_at.Reads.Learnt
      (λ _ s at r. r ≡ check_at s.now at)
  pub is_checked_lem : Says Block.is_checked.ended BlockProofs.is_checked.Reads.Asked
      BlockProofs.is_checked.Reads.Learnt
      (λ _ s at r. r ≡ checked s.now at)
  pub zeros_at_lem : Says Block.zeros_at.ended BlockProofs.zeros_at.Reads.Asked BlockProofs.zeros_at.Reads.Learnt
      (λ _ s at count r. r ≡ zeros_at s.now at count)

-- text
pub record OfText : Type 0 where
  pub new : Says Text.Page.new.ended TextProofs.Page.new.Reads.Asked TextProofs.Page.new.Reads.Learnt
      (λ _ bytes r handed. r ≡ record { bytes = bytes; at = 0 })
  pub put_byte_lem : Says Text.Page.put_byte.ended TextProofs.Page.put_byte.Reads.Asked
      TextProofs.Page.put_byte.Reads.Learnt
      (λ _ page b r page'. page' ≡ left page.now (put_byte b (laid page.now)))
  pub put : Says Text.Page.put.ended TextProofs.Page.put.Reads.Asked TextProofs.Page.put.Reads.Learnt
      (λ _ page text r page'. page' ≡ left page.now (put_text text.now (laid page.now)))
  pub put_decimal_lem : Says Text.Page.put_decimal.ended TextProofs.Page.put_decimal.Reads.Asked
      TextProofs.Page.put_decimal.Reads.Learnt
      (λ _ page n r page'. page' ≡ left page.now (put_text (decimal_of n) (laid page.now)))
  pub put_hex_lem : Says Text.Page.put_hex.ended TextProofs.Page.put_hex.Reads.Asked
      TextProofs.Page.put_hex.Reads.Learnt
      (λ _ page n r page'. page' ≡ left page.now (put_text (hex_of n) (laid page.now)))
  pub put_number : Says Text.Page.put_number.ended TextProofs.Page.put_number.Reads.Asked
      TextProofs.Page.put_number.Reads.Learnt
      (λ _ page text n r page'. page' ≡ left page.now (put_text (text.now ++ decimal_of n) (laid page.now)))

abbrev pub Claim : Type 0
Claim = OfAnswer × OfBlock × OfText
