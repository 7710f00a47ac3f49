-- The lowest place at which a test holds, and what is refused there. Assumes nothing.
use Rattle.std.specs.Prelude.{Bool, true, false, ℕ, zero, suc, Err, None, Ok, Some}
use Rattle.answer.specs.Answer.{Check, Found}

-- here, if the test held; else what is found further on
abbrev pub or_further : Bool → ℕ → Found → Found
or_further true k f = Some k
or_further false k f = f

-- the lowest of the n places from k on where the test holds
unfoldable pub lowest_from : (ℕ → Bool) → ℕ → ℕ → Found
lowest_from test k zero = None
lowest_from test k (suc n) = or_further (test k) k (lowest_from test (suc k) n)

-- the lowest place below n where the test holds
unfoldable pub lowest : (ℕ → Bool) → ℕ → Found
unfolding lowest_from
lowest test n = lowest_from test 0 n

-- refused with this number at the place found; Fine where nothing is found
abbrev pub refuse_at : ℕ → Found → Check
refuse_at number (Some k) = Err (record { number = number; place = k })
refuse_at number None = Ok tt

-- refused with this number and place where the test holds
abbrev pub refuse_if : Bool → ℕ → ℕ → Check
refuse_if true number place = Err (record { number = number; place = place })
refuse_if false number place = Ok tt
