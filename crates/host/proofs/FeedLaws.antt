-- A feed's state as one number: one for one, and never larger than a host's number holds; what the calls left behind is
-- what a host is told. Assumes nothing.
use Rattle.std.specs.Prelude.{Err, Ok}
use Rattle.std.proofs.Common.{◌≡◌, ℕ, zero, suc, ◌/◌, ◌%◌, ◌^◌, ◌<◌, ◌≤◌, Bool, true, false, eqb, List, length, replicate, sym, refl, ap, ◌∙◌, arith}
use lib.Ieee.{Float, to_bits, binary64}
use Rattle.answer.specs.Answer.{Answer, Check, Count}
use Rattle.answer.specs.declared.Refusal.{Refusal}
use Rattle.answer.specs.Code.{code_of}
use Rattle.points.specs.Numbers.{zero64}
use Rattle.table.specs.Distances.{entry_limit}
use Rattle.solve.specs.declared.Outcome.{Outcome}
use Rattle.feed.specs.declared.Feed.{Feed}
use Rattle.feed.specs.Feed.{piece_check, Stored, stored, stored_unless, add_of, ask_check, Reply, reply, reply_unless, ask_of}
use Rattle.host.specs.Hosts.{hosted}
use Rattle.host.specs.Exports.{as_told}
use Rattle.host.specs.Feeds.{bit_of, number_of, state_of, host_asked, asked_as, host_ask}

-- ---- one for one

bit-told : (a : Bool) → eqb (bit_of a) 1 ≡ a
bit-told true = refl
bit-told false = refl

pub bit_small : (a : Bool) → bit_of a ≤ 1
bit_small true = omega arith
bit_small false = omega arith

bit-back : (m : ℕ) → m < 2 → bit_of (eqb m 1) ≡ m
bit-back zero h = refl
bit-back (suc zero) h = refl
bit-back (suc (suc m)) h = absurd (omega arith)

state_is : (n : ℕ) (f : Feed) → n / 4 ≡ f.kept → n / 2 % 2 ≡ bit_of f.over → n % 2 ≡ bit_of f.ended → state_of n ≡ f
state_is n f k a b = λ i. record {
  kept = k i;
  over = (ap (λ (m : ℕ). eqb m 1) a ∙ bit-told f.over) i;
  ended = (ap (λ (m : ℕ). eqb m 1) b ∙ bit-told f.ended) i;
}

pub state_back : (f : Feed) → state_of (number_of f) ≡ f
state_back f =
    let a = bit_small f.over in
    let b = bit_small f.ended in
    state_is (number_of f) f (omega arith) (omega arith) (omega arith)

pub number-back : (n : ℕ) → number_of (state_of n) ≡ n
number-back n =
    let a = bit-back (n / 2 % 2) (omega arith) in
    let b = bit-back (n % 2) (omega arith) in
    rw (a, b) (omega arith)

-- ---- how large

-- no piece makes it longer than the longest card, where it is not already
added_small : (f : Feed) (held piece : List ℕ) → f.kept < 2 ^ 62 → (add_of f held piece).feed.kept < 2 ^ 62
unfolding add_of
added_small f held piece h = go (piece_check f (length piece) (length held))
  where
    go : (c : Check) → (stored_unless c f held piece).feed.kept < 2 ^ 62
    go (Ok _) = omega arith
    go (Err r) = h

-- an asking keeps as many
asked_same : (f : Feed) (held room : List ℕ) (table : List Float) → (ask_of f held room table).feed.kept ≡ f.kept
unfolding ask_of
asked_same f held room table = go (ask_check (length held))
  where
    go : (c : Check) → (reply_unless c f held room table).feed.kept ≡ f.kept
    go (Ok _) = refl
    go (Err r) = refl

-- ---- what a host is told

module _ (n : ℕ) (held piece after : List ℕ) (f g : Feed) (told : Count) (e : f ≡ state_of n)
    (is : stored g told after ≡ add_of f held piece) where
  pub fed_small : f.kept < 2 ^ 62 → g.kept < 2 ^ 62
  fed_small h =
      let small = added_small f held piece h in
      let same : g.kept ≡ (add_of f held piece).feed.kept = ap (λ (a : Stored). a.feed.kept) is in
      omega arith

module _ (n : ℕ) (held room after : List ℕ) (rest : List Float) (f g : Feed) (told : Answer Outcome) (e : f ≡ state_of n)
    (is : reply g told after rest ≡ ask_of f held room (replicate entry_limit zero64)) where
  pub asked_small : f.kept < 2 ^ 62 → g.kept < 2 ^ 62
  asked_small h =
      let same : g.kept ≡ f.kept = ap (λ (a : Reply). a.feed.kept) is ∙ asked_same f held room _ in
      omega arith

  heard : (number moves bits : ℕ) → number ≡ number_of g
      → host_asked number (as_told told after moves bits) ≡ host_ask n held room moves bits
  unfolding host_ask
  heard number moves bits k =
      ap (λ (m : ℕ). host_asked m (as_told told after moves bits)) k
      ∙ ap (λ (a : Reply). asked_as a moves bits) is
      ∙ ap (λ (x : Feed). asked_as (ask_of x held room (replicate entry_limit zero64)) moves bits) e

  pub asked_refused : (code number moves bits : ℕ) (why : Refusal) → number ≡ number_of g
      → told ≡ Err why → code ≡ code_of (Err why)
      → host_asked number (hosted code after moves bits) ≡ host_ask n held room moves bits
  asked_refused code number moves bits why k a c =
      ap (λ (m : ℕ). host_asked number (hosted m after moves bits)) c
      ∙ ap (λ (t : Answer Outcome). host_asked number (as_told t after moves bits)) (sym a)
      ∙ heard number moves bits k

  pub asked_done : (number moves bits word : ℕ) (o : Outcome) → number ≡ number_of g → told ≡ Ok o
      → word ≡ to_bits binary64 o.length
      → host_asked number (hosted 0 after o.moves word) ≡ host_ask n held room moves bits
  asked_done number moves bits word o k a w =
      ap (λ (m : ℕ). host_asked number (hosted 0 after o.moves m)) w
      ∙ ap (λ (t : Answer Outcome). host_asked number (as_told t after moves bits)) (sym a)
      ∙ heard number moves bits k
