-- How bridges come to stand in a host's room, one at a time. Assumes nothing.
use Rattle.std.proofs.Common.{◌≡◌, ℕ, suc, ◌+◌, ◌*◌, ◌<◌, ◌≤◌, List, [], ◌∷◌, ◌++◌, length, get_or, take, drop, set, sym, refl, ap, ◌∙◌, append_assoc, append-nil, add-one, arith, length-take-le, take-suc}
use lib.Seq.{sets, sets-eq, drop-drop}
use lib.Ieee.{Float, nan}
use Rattle.points.specs.Points.{nowhere}
use Rattle.bridge.specs.declared.Bridge.{Bridge}
use Rattle.host.specs.Bridges.{eight_of, numbers_of}

-- numbers copied over as many, from a place on
pub copied_over : (l after xs : List Float) (at n : ℕ) → n ≡ length xs → at + length xs ≤ length l → after ≡ xs
    → take at l ++ (after ++ drop n (drop at l)) ≡ sets l at xs
copied_over l after xs at n many fits e =
    (λ i. take at l ++ (e i ++ drop (many i) (drop at l)))
    ∙ ap (λ (r : List Float). take at l ++ (xs ++ r)) (drop-drop (length xs) at l)
    ∙ sym (append_assoc (take at l) xs (drop (at + length xs) l))
    ∙ sym (sets-eq xs l at fits)

-- stores behind stores
pub sets_more : (l : List Float) (i n : ℕ) (xs ys : List Float) → i + length xs ≡ n
    → sets (sets l i xs) n ys ≡ sets l i (xs ++ ys)
sets_more l i n [] ys e =
    let same : n ≡ i = omega arith in
    rw same
sets_more l i n (x ∷ xs) ys e = sets_more (set l i x) (suc i) n xs ys (omega arith)

pub numbers_length : (l : List Bridge) → length (numbers_of l) ≡ 8 * length l
unfolding numbers_of
numbers_length [] = refl
numbers_length (b ∷ l) = let h = numbers_length l in omega arith

pub numbers_more : (l : List Bridge) (b : Bridge) → numbers_of (l ++ (b ∷ [])) ≡ numbers_of l ++ eight_of b
unfolding numbers_of
numbers_more [] b = append-nil (eight_of b)
numbers_more (x ∷ l) b =
    ap (λ (r : List Float). eight_of x ++ r) (numbers_more l b)
    ∙ sym (append_assoc (eight_of x) (numbers_of l) (eight_of b))

-- never read: all places are there
abbrev no_bridge : Bridge
no_bridge = record { start = nowhere; end = nowhere; middle = nowhere; edge = 0; t = nan }

-- the first k bridges stand in the room
abbrev pub Stood : List Bridge → List Float → List Float → ℕ → Type 0
Stood items before room k = room ≡ sets before 0 (numbers_of (take k items))

pub stood_none : (items : List Bridge) (room : List Float) → Stood items room room 0
unfolding numbers_of
stood_none items room = refl

pub stood_more : (items : List Bridge) (before room : List Float) (k : ℕ) (b : Bridge) → k < length items
    → b ≡ get_or items k no_bridge → Stood items before room k
    → Stood items before (sets room (8 * k) (eight_of b)) (k + 1)
stood_more items before room k b h e s =
    let front = take k items in
    let n : 0 + length (numbers_of front) ≡ 8 * k =
    omega (arith, numbers_length front, length-take-le k items (omega arith)) in
    ap (λ (r : List Float). sets r (8 * k) (eight_of b)) s
    ∙ sets_more before 0 (8 * k) (numbers_of front) (eight_of b) n
    ∙ ap (λ (l : List Float). sets before 0 l) (sym (numbers_more front b))
    ∙ ap (λ (l : List Bridge). sets before 0 (numbers_of l))
    (ap (λ (x : Bridge). front ++ (x ∷ [])) e ∙ sym (take-suc items k no_bridge h)
    ∙ ap (λ (i : ℕ). take i items) (sym (add-one k)))
