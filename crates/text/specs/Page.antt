-- A page and an offset on it: a text is put there byte by byte, as far as the page reaches. Assumes nothing.
use Rattle.std.specs.Prelude.{cond, List, [], ◌∷◌, ℕ, ◌+◌, ltb, length, set}

-- the offset that is written next, and what the page holds
pub record Page : Type 0 where
  pub at : ℕ
  pub held : List ℕ

abbrev pub paged : ℕ → List ℕ → Page
paged at held = record { at = at; held = held }

-- one byte, where the page has room for it
unfoldable pub put_byte : ℕ → Page → Page
put_byte b p = cond (ltb p.at (length p.held)) (paged (p.at + 1) (set p.held p.at b)) p

-- a text, byte by byte
unfoldable pub put : List ℕ → Page → Page
unfolding put_byte
put [] p = p
put (b ∷ text) p = put text (put_byte b p)

-- a text laid over the front of a page: what does not fit is left out, and the page's rest is kept
unfoldable pub over : List ℕ → List ℕ → List ℕ
over [] held = held
over (b ∷ text) [] = []
over (b ∷ text) (x ∷ held) = b ∷ over text held
