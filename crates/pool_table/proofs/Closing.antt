-- What stands behind the entries that end a resize.
use Rattle.std.proofs.Common.{◌≡◌, inl, inr, ℕ, ◌+◌, List, [], ◌∷◌, Option, None, Some, sym, ap, ◌∙◌, subst, arith}
use mathlib.Core.Logic.{dite}
use native.Mathlib.Decide.{ℕ_discrete}
use Rattle.trail.specs.declared.event.Entry.{Entry}
use Rattle.trail.specs.declared.event.Event.{Event}
use Rattle.trail.specs.declared.event.Kind.{Kind}
use Rattle.trail.specs.declared.event.Kind.TheVariants as kind
use Rattle.trail.specs.Trails.{caller_of}
use Rattle.trail.specs.Withdrawal.{IsFollowed}
use Rattle.trail_laws.specs.Accounts.{with_event}
use Rattle.trail_laws.specs.Ending.{AreEnded, AreEndedSoFar, FollowsNewest}
use Rattle.trail_laws.proofs.Following.{AreOthers, ended_on}
use Rattle.pool_table.specs.Kept.{IsNewestOf, IsRested}
use Rattle.pool_table.proofs.Events.{with_else, with_here}

-- what needs nothing behind it may have anything there
anyway : (p : List Event) (next : Option Entry) (e : Entry) (k : Kind) → IsFollowed p None e k → IsFollowed p next e k
anyway p next e (kind.Undo from) (inl is) = absurd is
anyway p next e (kind.Undo from) (inr none) = inr none
anyway p next e (kind.Shrink chunks) is = absurd is
anyway p next e (kind.Grow chunks) is = absurd is
anyway p next e (kind.Load x f) is = is
anyway p next e (kind.Fix x f clock now) is = is
anyway p next e (kind.Create x f start end now) is = is
anyway p next e (kind.Put x at bytes start end) is = is
anyway p next e (kind.Evict x f passed) is = is
anyway p next e (kind.Write x lsn upto) is = is
anyway p next e (kind.Move x from to) is = is
anyway p next e (kind.Withdraw from) is = is
anyway p next e (kind.Resize bytes chunks) is = is
anyway p next e (kind.Clean written skipped) is = is
anyway p next e (kind.Check lsn) is = is
anyway p next e (kind.WatchSet x) is = is
anyway p next e (kind.WatchAt x f) is = is
anyway p next e (kind.Occurred x arrived) is = is
anyway p next e (kind.Unwatch x) is = is
anyway p next e (kind.Dump pct ids) is = is
anyway p next e (kind.Refused asked why) is = is

-- where another caller's entry is the newest, it needs nothing behind it
others_rest : (h : List Entry) (accounts : ℕ → List Event) (c t : ℕ) → t ≡ c + 1 → (IsNewestOf c h → ⊥) → IsRested accounts h t → FollowsNewest accounts None h
others_rest h accounts c t is apart (inl rested) = rested
others_rest h accounts c t is apart (inr (k, at, newest)) = let same : k ≡ c = omega (arith, is, at) in absurd (apart (subst (λ (n : ℕ). IsNewestOf n h) same newest))

-- An entry of who has the turn is what the newest one needs.
pub entry_follows : (h : List Entry) (accounts : ℕ → List Event) (x : Event) (c : ℕ) (mine : List Event) (e : Entry) (t : ℕ) → caller_of x ≡ c → accounts c ≡ mine → t ≡ c + 1 → IsRested accounts h t
    → (IsNewestOf c h → FollowsNewest (λ d. x ∷ mine) (Some e) h) → FollowsNewest (with_event x accounts) (Some e) h
entry_follows [] accounts x c mine e t by is at rested follows = tt
entry_follows (d ∷ h) accounts x c mine e t by is at rested follows = dite (ℕ_discrete d.caller c)
    (λ same. subst (λ (l : List Event). IsFollowed l (Some e) d d.kind) (sym (with_here x accounts d.caller (by ∙ sym same) ∙ ap (λ (l : List Event). x ∷ l) (ap accounts same ∙ is))) (follows same))
    (λ apart. subst (λ (l : List Event). IsFollowed l (Some e) d d.kind) (sym (with_else x accounts d.caller (λ same. apart (same ∙ by)))) (anyway (accounts d.caller) (Some e) d d.kind (others_rest (d ∷ h) accounts c t at apart rested)))

-- A receipt of who has the turn leaves what the newest entry needs.
pub note_rests : (h : List Entry) (accounts : ℕ → List Event) (x : Event) (c t : ℕ) → caller_of x ≡ c → t ≡ c + 1 → IsRested accounts h t → IsRested (with_event x accounts) h t
note_rests [] accounts x c t by at rested = inl tt
note_rests (d ∷ h) accounts x c t by at rested = dite (ℕ_discrete d.caller c)
    (λ same. inr (c, at, same))
    (λ apart. inl (subst (λ (l : List Event). IsFollowed l None d d.kind) (sym (with_else x accounts d.caller (λ same. apart (same ∙ by)))) (others_rest (d ∷ h) accounts c t at apart rested)))

-- A receipt of a call that has no entry leaves what the newest entry needs, whoever has the turn.
pub rests_beside : (h : List Entry) (accounts : ℕ → List Event) (x : Event) (t : ℕ) → AreOthers x h → AreEndedSoFar accounts h → IsRested accounts h t → IsRested (with_event x accounts) h t
rests_beside [] accounts x t others ended rested = inl tt
rests_beside (d ∷ h) accounts x t others ended (inl rested) = inl (ended_on x accounts None (d ∷ h) others (rested, ended)).0
rests_beside (d ∷ h) accounts x t others ended (inr holder) = inr holder

-- Who gives the turn back left nothing that its newest entry needs.
pub given_rests : (h : List Entry) (accounts : ℕ → List Event) (c : ℕ) (mine : List Event) (t : ℕ) → accounts c ≡ mine → t ≡ c + 1 → IsRested accounts h t → (IsNewestOf c h → FollowsNewest (λ d. mine) None h)
    → FollowsNewest accounts None h
given_rests [] accounts c mine t is at rested own = tt
given_rests (d ∷ h) accounts c mine t is at rested own = dite (ℕ_discrete d.caller c)
    (λ same. subst (λ (l : List Event). IsFollowed l None d d.kind) (sym (ap accounts same ∙ is)) (own same))
    (λ apart. others_rest (d ∷ h) accounts c t at apart rested)

-- the same of equal accounts
pub same_ended : (next : Option Entry) (h : List Entry) (p q : ℕ → List Event) → ((c : ℕ) → q c ≡ p c) → AreEnded p next h → AreEnded q next h
same_ended next [] p q same ended = tt
same_ended next (e ∷ h) p q same ended = (subst (λ (l : List Event). IsFollowed l next e e.kind) (sym (same e.caller)) ended.0, same_ended (Some e) h p q same ended.1)
