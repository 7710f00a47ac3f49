-- What the contracts of `fields`, `card` and `reader` come to: see Contract. Assumes nothing.
use Rattle.std.specs.Prelude.{◌≡◌, ◌+◌, min, ◌-◌, length}
use Rattle.block.specs.Field.{byte_at}
use Rattle.fields.specs.Layout.{payload, version_of, is_two, job_of, contours_of, pairs_of, per_contour_of, passes_of}
use Rattle.fields.specs.Layout.{move_limit_of, home_offset, exterior_of, interior_of, grid_of, asks_grid, id_of, tag_of}
use Rattle.fields.specs.Layout.{vertex_count_of, type_of, part_of, copy_of, vertex_offset, pair_offset, before_id_of}
use Rattle.fields.specs.Layout.{before_tag_of, after_id_of, after_tag_of}
use Rattle.fields.specs.Values.{as_type, as_preference, point_at}
use Rattle.card.specs.Stages.{position_of}
use Rattle.card.specs.Names.{named_of}
use Rattle.card.specs.Verdict.{check_of}
use Rattle.reader.specs.Fields.{field_at}
use Rattle.reader.specs.OnCard.{head_of, contour_head, contour_read, pair_read}
use Rattle.fields.specs.contracts as Fields
use Rattle.fields.proofs as FieldsProofs
use Rattle.card.specs.contracts as Card
use Rattle.card.proofs as CardProofs
use Rattle.reader.specs.contracts as Reader
use Rattle.reader.proofs as ReaderProofs
use Rattle.contracts.specs.Contract.{Says}
use Rattle.contracts.specs.ByHand.{SaysByHand}

-- fields
pub record OfFields : Type 0 where
  pub version : Says Fields.version.ended FieldsProofs.version.Reads.Asked FieldsProofs.version.Reads.Learnt
      (λ _ card r. r ≡ version_of card.now)
  pub is_two_lem : Says Fields.is_two.ended FieldsProofs.is_two.Reads.Asked FieldsProofs.is_two.Reads.Learnt
      (λ _ card r. r ≡ is_two card.now)
  pub job : Says Fields.job.ended FieldsProofs.job.Reads.Asked FieldsProofs.job.Reads.Learnt
      (λ _ card r. r ≡ job_of card.now)
  pub contours : Says Fields.contours.ended FieldsProofs.contours.Reads.Asked FieldsProofs.contours.Reads.Learnt
      (λ _ card r. r ≡ contours_of card.now)
  pub pairs : Says Fields.pairs.ended FieldsProofs.pairs.Reads.Asked FieldsProofs.pairs.Reads.Learnt
      (λ _ card r. r ≡ pairs_of card.now)
  pub per_contour_lem : Says Fields.per_contour.ended FieldsProofs.per_contour.Reads.Asked
      FieldsProofs.per_contour.Reads.Learnt
      (λ _ card r. r ≡ per_contour_of card.now)
  pub passes : Says Fields.passes.ended FieldsProofs.passes.Reads.Asked FieldsProofs.passes.Reads.Learnt
      (λ _ card r. r ≡ passes_of card.now)
  pub move_limit_lem : Says Fields.move_limit.ended FieldsProofs.move_limit.Reads.Asked
      FieldsProofs.move_limit.Reads.Learnt
      (λ _ card r. r ≡ move_limit_of card.now)
  pub home : Says Fields.home.ended FieldsProofs.home.Reads.Asked FieldsProofs.home.Reads.Learnt
      (λ _ card r. r ≡ point_at card.now home_offset)
  pub exterior : Says Fields.exterior.ended FieldsProofs.exterior.Reads.Asked FieldsProofs.exterior.Reads.Learnt
      (λ _ card r. r ≡ as_preference (exterior_of card.now))
  pub interior : Says Fields.interior.ended FieldsProofs.interior.Reads.Asked FieldsProofs.interior.Reads.Learnt
      (λ _ card r. r ≡ as_preference (interior_of card.now))
  pub grid : Says Fields.grid.ended FieldsProofs.grid.Reads.Asked FieldsProofs.grid.Reads.Learnt
      (λ _ card r. r ≡ grid_of card.now)
  pub asks_grid_lem : Says Fields.asks_grid.ended FieldsProofs.asks_grid.Reads.Asked
      FieldsProofs.asks_grid.Reads.Learnt
      (λ _ card r. r ≡ asks_grid card.now)
  pub contour_offset_lem : Says Fields.contour_offset.ended FieldsProofs.contour_offset.Reads.Asked
      FieldsProofs.contour_offset.Reads.Learnt
      (λ _ card k offset r. r ≡ min (payload (k + 1) + offset) (length card.now))
  pub pair_offset_lem : Says Fields.pair_offset.ended FieldsProofs.pair_offset.Reads.Asked
      FieldsProofs.pair_offset.Reads.Learnt
      (λ _ card q r. r ≡ min (pair_offset card.now q) (length card.now))
  pub contour_byte_lem : Says Fields.contour_byte.ended FieldsProofs.contour_byte.Reads.Asked
      FieldsProofs.contour_byte.Reads.Learnt
      (λ _ card k offset r. r ≡ byte_at card.now (payload (k + 1) + offset))
  pub id : Says Fields.id.ended FieldsProofs.id.Reads.Asked FieldsProofs.id.Reads.Learnt
      (λ _ card k r. r ≡ id_of card.now k)
  pub tag : Says Fields.tag.ended FieldsProofs.tag.Reads.Asked FieldsProofs.tag.Reads.Learnt
      (λ _ card k r. r ≡ tag_of card.now k)
  pub vertices : Says Fields.vertices.ended FieldsProofs.vertices.Reads.Asked FieldsProofs.vertices.Reads.Learnt
      (λ _ card k r. r ≡ vertex_count_of card.now k)
  pub contour_type_lem : Says Fields.contour_type.ended FieldsProofs.contour_type.Reads.Asked
      FieldsProofs.contour_type.Reads.Learnt
      (λ _ card k r. r ≡ as_type (type_of card.now k))
  pub part : Says Fields.part.ended FieldsProofs.part.Reads.Asked FieldsProofs.part.Reads.Learnt
      (λ _ card k r. r ≡ part_of card.now k)
  pub copy : Says Fields.copy.ended FieldsProofs.copy.Reads.Asked FieldsProofs.copy.Reads.Learnt
      (λ _ card k r. r ≡ copy_of card.now k)
  pub vertex : Says Fields.vertex.ended FieldsProofs.vertex.Reads.Asked FieldsProofs.vertex.Reads.Learnt
      (λ _ card k j r. r ≡ point_at card.now (vertex_offset k j))
  pub before_id : Says Fields.before_id.ended FieldsProofs.before_id.Reads.Asked FieldsProofs.before_id.Reads.Learnt
      (λ _ card q r. r ≡ before_id_of card.now q)
  pub before_tag : Says Fields.before_tag.ended FieldsProofs.before_tag.Reads.Asked
      FieldsProofs.before_tag.Reads.Learnt
      (λ _ card q r. r ≡ before_tag_of card.now q)
  pub after_id_lem : Says Fields.after_id.ended FieldsProofs.after_id.Reads.Asked FieldsProofs.after_id.Reads.Learnt
      (λ _ card q r. r ≡ after_id_of card.now q)
  pub after_tag : Says Fields.after_tag.ended FieldsProofs.after_tag.Reads.Asked FieldsProofs.after_tag.Reads.Learnt
      (λ _ card q r. r ≡ after_tag_of card.now q)

-- card
pub record OfCard : Type 0 where
  pub position_of_lem : Says Card.position_of.ended CardProofs.position_of.Reads.Asked
      CardProofs.position_of.Reads.Learnt
      (λ _ card wanted r. r ≡ position_of card.now wanted)
  pub pair_places_lem : Says Card.pair_places.ended CardProofs.pair_places.Reads.Asked
      CardProofs.pair_places.Reads.Learnt
      (λ _ card r. r ≡ named_of card.now)
  pub check : Says Card.check.ended CardProofs.check.Reads.Asked CardProofs.check.Reads.Learnt
      (λ _ card r. r ≡ check_of card.now)

-- reader
pub record OfReader : Type 0 where
  pub field_at_lem : Says Reader.field_at.ended ReaderProofs.field_at.Reads.Asked ReaderProofs.field_at.Reads.Learnt
      (λ _ s at width r. r ≡ field_at s.now at width)
  pub left_at : Says Reader.left_at.ended ReaderProofs.left_at.Reads.Asked ReaderProofs.left_at.Reads.Learnt
      (λ _ s at r. r ≡ length s.now - at)
  pub read_field_lem : Says Reader.read_field.ended ReaderProofs.read_field.Reads.Asked
      ReaderProofs.read_field.Reads.Learnt
      (λ _ s at width f. f ≡ field_at s.now at width)
  pub read_head : Says Reader.read_head.ended ReaderProofs.read_head.Reads.Asked ReaderProofs.read_head.Reads.Learnt
      (λ _ card r. r ≡ head_of card.now)
  pub read_grid_lem : Says Reader.read_grid.ended ReaderProofs.read_grid.Reads.Asked
      ReaderProofs.read_grid.Reads.Learnt
      (λ _ card r. r ≡ grid_of card.now)
  pub contour_head_lem : Says Reader.contour_head.ended ReaderProofs.contour_head.Reads.Asked
      ReaderProofs.contour_head.Reads.Learnt
      (λ _ card k r. r ≡ contour_head card.now k)
  pub read_contour_lem : Says Reader.read_contour.ended ReaderProofs.read_contour.Reads.Asked
      ReaderProofs.read_contour.Reads.Learnt
      (λ _ card k r. r ≡ contour_read card.now k)
  pub read_pair_lem : Says Reader.read_pair.ended ReaderProofs.read_pair.Reads.Asked
      ReaderProofs.read_pair.Reads.Learnt
      (λ _ card q r. r ≡ pair_read card.now q)
  pub new : Says Reader.Reader.new.ended ReaderProofs.Reader.new.Reads.Asked ReaderProofs.Reader.new.Reads.Learnt
      (λ _ src r. r ≡ record { src = src; at = 0 })
  pub moved : Says Reader.Reader.moved.ended ReaderProofs.Reader.moved.Reads.Asked
      ReaderProofs.Reader.moved.Reads.Learnt
      (λ _ r at q. q ≡ record { src = r.src; at = at })
  pub next : Says Reader.Reader.next.ended ReaderProofs.Reader.next.Reads.Asked ReaderProofs.Reader.next.Reads.Learnt
      (λ _ reader width v reader'. (v ≡ (field_at reader.now.src.now reader.now.at width).value)
      × (reader' ≡ record { src = reader.now.src; at = (field_at reader.now.src.now reader.now.at width).after }))
  pub left : Says Reader.Reader.left.ended ReaderProofs.Reader.left.Reads.Asked ReaderProofs.Reader.left.Reads.Learnt
      (λ _ r n. n ≡ length r.now.src.now - r.now.at)

-- reader, its struct, by the clauses themselves
pub record OfReaderByHand : Type 2 where
  pub new : SaysByHand Reader.Reader.new.ended (λ M 𝓤. Reader.Reader.new.clauses)
      (λ _ src r. r ≡ record { src = src; at = 0 })
  pub moved : SaysByHand Reader.Reader.moved.ended (λ M 𝓤. Reader.Reader.moved.clauses)
      (λ _ r at q. q ≡ record { src = r.src; at = at })
  pub next : SaysByHand Reader.Reader.next.ended (λ M 𝓤. Reader.Reader.next.clauses)
      (λ _ r width v q. (v ≡ (field_at r.now.src.now r.now.at width).value)
      × (q ≡ record { src = r.now.src; at = (field_at r.now.src.now r.now.at width).after }))
  pub left : SaysByHand Reader.Reader.left.ended (λ M 𝓤. Reader.Reader.left.clauses)
      (λ _ r n. n ≡ length r.now.src.now - r.now.at)

abbrev pub Claim : Type 2
Claim = OfFields × OfCard × OfReader × OfReaderByHand
