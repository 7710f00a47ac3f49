-- Ways to what a contract comes to, for the forms that contracts have. Assumes nothing.
use mathlib.Core.Path.{◌≡◌, sym, ◌∙◌}
use mathlib.Core.Logic.{◌↔◌}
use base.Logic.{sep, emp, id⊢, fst∗, snd∗}
use contract.Monad.{fact, fact_i, fact_use, fact_mono}
use denote.Triple.Entry.{Res}
use denote.Triple.Clauses.{Ended, Lasts}
use Rattle.contracts.specs.Contract.{Says, Lives, Handed, Back, Tells, Meets, Definition, Holds}
use Rattle.contracts.specs.ByHand.{SaysByHand}

-- two that equal the same are equal
pub same : {A : Type 0} {x y definition : A} → x ≡ definition → y ≡ definition → x ≡ y
same p q = p ∙ sym q

-- a claim that reads the same
pub alike : {A : Type 0} → A ↔ A
alike = (λ p. p, λ p. p)

-- each part by itself
infixr 20 ◌&◌
pub ◌&◌ : {A B : Type 0} {x y : A × B} → x.0 ≡ y.0 → x.1 ≡ y.1 → x ≡ y
(p & q) i = (p i, q i)

module _ {T : Ended} {D : Definition T} where
  -- the result is what a function of the arguments says, and nothing is lent
  pub told : (f : (κs : Lives T) → Handed T κs → Res T.signature κs)
      → ((κs : Lives T) (a : Handed T κs) (u v : Lasts T κs a) → u ≡ v)
      → ((κs : Lives T) (a : Handed T κs) (x : Back T κs a) → (x.0 ≡ f κs a) ↔ Holds T D κs a x)
      → Says T (λ κs a. Unit {0}) (λ κs a r e. r ≡ f κs a) D
  told f none_lent says = record {
    asks_nothing = λ κs a. tt;
    one_answer = λ κs a x y p q. same p q & none_lent κs a x.1 y.1;
    says = says;
  }

  -- something is lent: each part of the answer by itself
  pub lent : {L : Tells T}
      → ((κs : Lives T) (a : Handed T κs) (x y : Back T κs a) → Meets T L κs a x → Meets T L κs a y → x ≡ y)
      → ((κs : Lives T) (a : Handed T κs) (x : Back T κs a) → Meets T L κs a x ↔ Holds T D κs a x)
      → Says T (λ κs a. Unit {0}) L D
  lent one says = record { asks_nothing = λ κs a. tt; one_answer = one; says = says }

  -- as `told`, of the clauses themselves
  pub by_hand : (f : (κs : Lives T) → Handed T κs → Res T.signature κs)
      → ((κs : Lives T) (a : Handed T κs) (u v : Lasts T κs a) → u ≡ v)
      → ((κs : Lives T) (a : Handed T κs) (x : Back T κs a) → (x.0 ≡ f κs a) ↔ Holds T D κs a x)
      → SaysByHand T (λ M 𝓤 𝓛 mem run κs a. record {
        ghost = Unit {0};
        requires = λ g. emp 𝓤;
        ensures = λ g r e. fact 𝓤 (r ≡ f κs a);
      }) D
  by_hand f none_lent says = record {
    asks_nothing = λ w κs a g. id⊢ w.𝓤 (emp w.𝓤);
    one_answer = λ w κs a g x y. let 𝓤 = w.𝓤 in let P = x.0 ≡ f κs a in let Q = y.0 ≡ f κs a in
        fact_use 𝓤 P (fst∗ 𝓤 (fact 𝓤 P) (fact 𝓤 Q)) (λ p.
        fact_use 𝓤 Q (snd∗ 𝓤 (fact 𝓤 P) (fact 𝓤 Q)) (λ q.
        fact_i 𝓤 (x ≡ y) (sep 𝓤 (fact 𝓤 P) (fact 𝓤 Q)) (same p q & none_lent κs a x.1 y.1)));
    says = λ w κs a g x. fact_mono w.𝓤 (x.0 ≡ f κs a) (Holds T D κs a x) (says κs a x).0;
    says_all = λ w κs a g x. fact_mono w.𝓤 (Holds T D κs a x) (x.0 ≡ f κs a) (says κs a x).1;
  }

  -- as `lent`, of the clauses themselves
  pub lent_by_hand : (L : Tells T)
      → ((κs : Lives T) (a : Handed T κs) (x y : Back T κs a) → Meets T L κs a x → Meets T L κs a y → x ≡ y)
      → ((κs : Lives T) (a : Handed T κs) (x : Back T κs a) → Meets T L κs a x ↔ Holds T D κs a x)
      → SaysByHand T (λ M 𝓤 𝓛 mem run κs a. record {
        ghost = Unit {0};
        requires = λ g. emp 𝓤;
        ensures = λ g r e. fact 𝓤 (L κs a r e);
      }) D
  lent_by_hand L one says = record {
    asks_nothing = λ w κs a g. id⊢ w.𝓤 (emp w.𝓤);
    one_answer = λ w κs a g x y. let 𝓤 = w.𝓤 in let P = Meets T L κs a x in let Q = Meets T L κs a y in
        fact_use 𝓤 P (fst∗ 𝓤 (fact 𝓤 P) (fact 𝓤 Q)) (λ p.
        fact_use 𝓤 Q (snd∗ 𝓤 (fact 𝓤 P) (fact 𝓤 Q)) (λ q.
        fact_i 𝓤 (x ≡ y) (sep 𝓤 (fact 𝓤 P) (fact 𝓤 Q)) (one κs a x y p q)));
    says = λ w κs a g x. fact_mono w.𝓤 (Meets T L κs a x) (Holds T D κs a x) (says κs a x).0;
    says_all = λ w κs a g x. fact_mono w.𝓤 (Holds T D κs a x) (Meets T L κs a x) (says κs a x).1;
  }
