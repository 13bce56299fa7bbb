-- Accounts that are the same for each caller say the same.
use Rattle.std.proofs.Common.{◌≡◌, ◌⊎◌, ℕ, true, List, [], ◌∷◌, Option, Some, None, ap, sym, subst, arith}
use Rattle.std.specs.List.{AllByRecursion}
use Rattle.trail.specs.declared.event.Entry.{Entry}
use Rattle.trail.specs.declared.event.Event.{Event}
use Rattle.trail.specs.Trails.{Opening, caller_of, mark}
use Rattle.trail.specs.Withdrawal.{IsFollowed}
use Rattle.trail.specs.Alone.{is_of_flush}
use Rattle.trail_laws.specs.Accounts.{IsAccount, earlier}
use Rattle.trail_laws.specs.SoFar.{AreLawfulOf, AreTrueAlone, AreTrueBy, IsLawfulSoFar, is_of_clean}
use Rattle.trail_laws.specs.Ending.{AreDone, AreEnded, IsAnswered}
use Rattle.trail_laws.proofs.Places.{still_on, up_to_mark}

pub same_so_far : (o : Opening) (pages : ℕ → ℕ) (h : List Entry) (was now : ℕ → List Event) → ((c : ℕ) → now c ≡ was c) → IsLawfulSoFar o pages h was → IsLawfulSoFar o pages h now
same_so_far o pages h was now same so = record {
  places = record {
    numbered = so.places.numbered;
    each = λ c. let A : List Event → Type 0 = λ mine. IsAccount o.first h c mine in subst A (sym (same c)) (so.places.each c);
  };
  laws = λ c. let L : List Event → Type 0 = λ mine. AreLawfulOf o pages h mine in subst L (sym (same c)) (so.laws c);
  still = still_on (mark o.first h) was now h (λ k c le. ap (earlier k) (same c)) (up_to_mark o.first (mark o.first h) h so.places.numbered (omega arith)) so.still;
}

pub same_true : (h : List Entry) (was now : ℕ → List Event) → ((c : ℕ) → now c ≡ was c) → AreTrueAlone h was → AreTrueAlone h now
same_true h was now same words c flush alone d =
    let T : List Event → Type 0 = λ mine. AreTrueBy c h mine in
    let O : List Event → Type 0 = λ mine. AllByRecursion (λ e. ((is_of_flush flush e ≡ true) × (is_of_clean e ≡ true)) ⊎ (caller_of e ≡ c)) mine in
    subst T (sym (same d)) (words c flush (λ b. subst O (same b) (alone b)) d)

same_ended : (was now : ℕ → List Event) (next : Option Entry) (h : List Entry) → ((c : ℕ) → now c ≡ was c) → AreEnded was next h → AreEnded now next h
same_ended was now next [] same ended = tt
same_ended was now next (e ∷ h) same ended =
    let F : List Event → Type 0 = λ mine. IsFollowed mine next e e.kind in
    (subst F (sym (same e.caller)) ended.0, same_ended was now (Some e) h same ended.1)

pub same_done : (o : Opening) (h : List Entry) (was now : ℕ → List Event) → ((c : ℕ) → now c ≡ was c) → AreDone o h was → AreDone o h now
same_done o h was now same done = record {
  answered = λ c. let A : List Event → Type 0 = λ mine. IsAnswered o h c mine in subst A (sym (same c)) (done.answered c);
  followed = same_ended was now None h same done.followed;
}
