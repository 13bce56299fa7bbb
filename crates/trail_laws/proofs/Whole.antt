-- What is merged from a history and its accounts is a lawful trail, where both are lawful so far, and done.
use Rattle.std.proofs.Common.{◌≡◌, ◌<◌, ◌≤◌, ℕ, Bool, true, false, cond, List, [], ◌∷◌, ◌+◌, ◌&&◌, ◌⊎◌, inl, inr, Option, Some, None, IfSome, refl, ap, ◌∙◌, sym, subst, eq-eqb, nat_eq, reverse, arith}
use Rattle.std.proofs.lemmas.List.{reverse-reverse}
use Rattle.std.specs.List.{AllByRecursion, list_all}
use Rattle.trail.specs.declared.event.Entry.{Entry}
use Rattle.trail.specs.declared.event.Event.{Event}
use Rattle.trail.specs.declared.event.Event.TheVariants as event
use Rattle.trail.specs.Trails.{AreNumbered, Opening, caller_of, callers, entries, mark, number_of, own}
use Rattle.trail.specs.Kinds.{Placing, departure_in, refusal_of}
use Rattle.trail.specs.Calls.{calls_of, held_by, is_answered, newest_fix, open_fixes}
use Rattle.trail.specs.Legal.{IsNumbered}
use Rattle.trail.specs.Still.{IsStill}
use Rattle.trail.specs.Spaces.{page_told, shown_pages, told_pages}
use Rattle.trail.specs.Withdrawal.{AreFollowed}
use Rattle.trail.specs.Merging.{AreInOrder, IsPlaced}
use Rattle.trail.specs.Alone.{closing_number, is_of_flush, only_caller, other_callers, sole_of, IsTrueOf}
use Rattle.trail.specs.Promises.{ArePromised, IsPromised, IsTold}
use Rattle.trail.specs.Laws.{AreLawful, IsCutShort, IsLawfulTrail, IsSettled}
use Rattle.trail.proofs.Judging.{AreTrue, IsSpaceOf, of_all, shown_after, told_after}
use Rattle.trail_laws.specs.Accounts.{AreEach, IsAccount, earlier, event_place, seen_by}
use Rattle.trail_laws.specs.SoFar.{AreLawfulOf, ArePromisedSoFar, AreStill, AreTrueAlone, AreTrueBy, IsFixedByNone, IsLawfulOf, IsLawfulSoFar, IsTrueBy, TellSpaces, is_of_clean}
use Rattle.trail_laws.specs.Ending.{AreDone, AreEnded, IsAnswered, IsTrailOf}
use Rattle.trail_laws.proofs.Places.{all_below, each_back, earlier_all, earlier_more, seen_next, seen_now, some_on, still_on, up_to_mark}
use Rattle.trail_laws.proofs.Calling.{most_parts}
use Rattle.trail_laws.proofs.Following.{followed_by}
use Rattle.trail_laws.proofs.Flush.{closing_clean}
use Rattle.trail_laws.proofs.Same.{same_done, same_so_far, same_true}
use Rattle.trail_laws.proofs.Owning.{all_of_own, all_own, own_account, own_by, own_here, placed_falls}
use Rattle.trail_laws.proofs.Tests.{number_is}

-- The laws of each caller's own events, one event back.
rest_of : (P : List Event → Type 0) (e : Event) (past : List Event) (c : ℕ) → ((l : List Event) → P (e ∷ l) → P l) → P (own c (e ∷ past)) → P (own c past)
rest_of P e past c less is = cases (nat_eq (caller_of e) c) is
  where
    cases : (b : Bool) → P (cond b (e ∷ own c past) (own c past)) → P (own c past)
    cases true p = less (own c past) p
    cases false p = p

-- what stood before an entry has lower places
before_entry : (first : ℕ) (e : Entry) (past : List Event) (c : ℕ) → IsPlaced first (event.Entry e ∷ past) → AllByRecursion (λ d. event_place d < e.place) (own c past)
before_entry first e past c placed =
    all_own (λ d. event_place d < e.place) c past (all_below (mark first (entries past)) e.place past (omega (arith, placed.0)) (placed_falls first past placed.1))

numbered : (first : ℕ) (past : List Event) → IsPlaced first past → AreNumbered first (entries past)
numbered first [] placed = tt
numbered first (event.Entry e ∷ past) placed = (placed.0, numbered first past placed.1)
numbered first (event.Receipt r ∷ past) placed = numbered first past placed.1

each_rest : (Q : List Entry → List Event → Event → Type 0) (first : ℕ) (e : Event) (past : List Event) → IsPlaced first (e ∷ past) → ((c : ℕ) → AreEach Q (entries (e ∷ past)) (own c (e ∷ past))) → (c : ℕ) → AreEach Q (entries past) (own c past)
each_rest Q first (event.Entry e) past placed each c =
    each_back Q e (entries past) (own c past) (before_entry first e past c placed) (rest_of (AreEach Q (e ∷ entries past)) (event.Entry e) past c (λ l p. p.1) (each c))
each_rest Q first (event.Receipt r) past placed each c = rest_of (AreEach Q (entries past)) (event.Receipt r) past c (λ l p. p.1) (each c)

-- the event itself
seen_here : (first : ℕ) (e : Event) (past : List Event) → IsPlaced first (e ∷ past) → seen_by e (entries (e ∷ past)) ≡ entries past
seen_here first (event.Entry e) past placed = seen_next first e (entries past) placed.0
seen_here first (event.Receipt r) past placed = seen_now first r (entries past) placed.0

each_here : (Q : List Entry → List Event → Event → Type 0) (first : ℕ) (e : Event) (past : List Event) → IsPlaced first (e ∷ past) → ((c : ℕ) → AreEach Q (entries (e ∷ past)) (own c (e ∷ past))) → Q (entries past) (own (caller_of e) past) e
each_here Q first e past placed each =
    let A : List Event → Type 0 = λ l. AreEach Q (entries (e ∷ past)) l in
    let P : List Entry → Type 0 = λ h. Q h (own (caller_of e) past) e in
    subst P (seen_here first e past placed) (subst A (own_here e past) (each (caller_of e))).0

-- What spaces have: each event tells it right.
space_after : (pages : ℕ → ℕ) (s : ℕ) (e : Event) (past : List Event) → IsTold pages (page_told e) (refusal_of e) → IsSpaceOf pages past s → IsSpaceOf pages (e ∷ past) s
space_after pages s e past told was = record {
  told = told_after pages s (refusal_of e) (told_pages past s) told.told was.told;
  shown = shown_after pages s (page_told e) (shown_pages past s) told.inside was.shown;
}

spaces_told : (o : Opening) (pages : ℕ → ℕ) (past : List Event) → IsPlaced o.first past → ((c : ℕ) → AreLawfulOf o pages (entries past) (own c past)) → TellSpaces pages past
spaces_told o pages [] placed laws s = record { told = tt; shown = omega arith }
spaces_told o pages (event.Entry e ∷ past) placed laws s =
    let x : Event = event.Entry e in
    space_after pages s x past (each_here (IsLawfulOf o pages) o.first x past placed laws).spaces (spaces_told o pages past placed.1 (each_rest (IsLawfulOf o pages) o.first x past placed laws) s)
spaces_told o pages (event.Receipt r ∷ past) placed laws s =
    let x : Event = event.Receipt r in
    space_after pages s x past (each_here (IsLawfulOf o pages) o.first x past placed laws).spaces (spaces_told o pages past placed.1 (each_rest (IsLawfulOf o pages) o.first x past placed laws) s)

-- Nobody has fixed what leaves or moves.
earlier_own : (n c : ℕ) (e : Event) (past : List Event) → n ≤ event_place e → earlier n (own c (e ∷ past)) ≡ earlier n (own c past)
earlier_own n c e past le = own_by (λ l. earlier n l ≡ earlier n (own c past)) c e past (λ is. earlier_more n e (own c past) le) (λ other. refl)

still_back : (first : ℕ) (e : Event) (past : List Event) (h : List Entry) → mark first h ≤ event_place e → AreNumbered first h → AreStill (λ c. own c (e ∷ past)) h → AreStill (λ c. own c past) h
still_back first e past h le is_numbered still =
    still_on (event_place e) (λ c. own c (e ∷ past)) (λ c. own c past) h (λ k c below. sym (earlier_own k c e past below)) (up_to_mark first (event_place e) h is_numbered le) still

still_here : (first : ℕ) (e : Entry) (past : List Event) → IsPlaced first (event.Entry e ∷ past) → IfSome (departure_in e.kind) (λ d. IsFixedByNone (λ c. earlier e.place (own c (event.Entry e ∷ past))) d.page) → IsStill past (event.Entry e)
still_here first e past placed free =
    some_on (departure_in e.kind) _ _ (λ (d : Placing) is. of_all (λ c. newest_fix (held_by past c) d.page ≡ None) (callers past) (λ c.
    let same : earlier e.place (own c (event.Entry e ∷ past)) ≡ own c past = earlier_own e.place c (event.Entry e) past (omega arith) ∙ earlier_all e.place (own c past) (before_entry first e past c placed) in
    ap (λ l. newest_fix (open_fixes l) d.page) (sym same) ∙ is c)) free

-- Each event of the trail is lawful; of words none is asked.
all_lawful : (o : Opening) (pages : ℕ → ℕ) (past : List Event) → IsPlaced o.first past → AreInOrder past → ((c : ℕ) → AreLawfulOf o pages (entries past) (own c past)) → AreStill (λ c. own c past) (entries past)
    → AreLawful o None past
all_lawful o pages [] placed ordered laws still = tt
all_lawful o pages (event.Entry e ∷ past) placed ordered laws still =
    let x : Event = event.Entry e in
    let law = each_here (IsLawfulOf o pages) o.first x past placed laws in
    let back = each_rest (IsLawfulOf o pages) o.first x past placed laws in (
      record {
        legal = law.legal;
        order = ordered.0;
        still = still_here o.first e past placed still.0;
        covered = law.covered;
        causes = law.causes past (spaces_told o pages past placed.1 back);
        words = tt;
        victim = law.victim;
        withdrawal = law.withdrawal;
      },
      all_lawful o pages past placed.1 ordered.1 back (still_back o.first x past (entries past) (omega (arith, placed.0)) (numbered o.first past placed.1) still.1),
    )
all_lawful o pages (event.Receipt r ∷ past) placed ordered laws still =
    let x : Event = event.Receipt r in
    let law = each_here (IsLawfulOf o pages) o.first x past placed laws in
    let back = each_rest (IsLawfulOf o pages) o.first x past placed laws in (
      record {
        legal = law.legal;
        order = ordered.0;
        still = tt;
        covered = tt;
        causes = law.causes past (spaces_told o pages past placed.1 back);
        words = tt;
        victim = tt;
        withdrawal = tt;
      },
      all_lawful o pages past placed.1 ordered.1 back (still_back o.first x past (entries past) (omega (arith, placed.0)) (numbered o.first past placed.1) still),
    )

-- Words, where the trail has a sole caller.
all_are : (c : ℕ) (cs : List ℕ) → only_caller cs ≡ Some c → list_all (λ x. nat_eq x c) cs ≡ true
all_are c [] is = refl
all_are c (d ∷ cs) is = cases (list_all (λ x. nat_eq x d) cs) refl is
  where
    cases : (b : Bool) → list_all (λ x. nat_eq x d) cs ≡ b → cond b (Some d) None ≡ Some c → (nat_eq d c && list_all (λ x. nat_eq x c) cs) ≡ true
    cases true t some =
        let same : d ≡ c = cc in
        ap (λ (b : Bool). b && list_all (λ x. nat_eq x c) cs) (eq-eqb d c same) ∙ ap (λ (n : ℕ). list_all (λ x. nat_eq x n) cs) (sym same) ∙ t
    cases false t some = absurd (cc)

alone_in : (c : ℕ) (flush : Option ℕ) (past : List Event) → list_all (λ x. nat_eq x c) (other_callers flush past) ≡ true → AllByRecursion (λ e. (is_of_flush flush e ≡ true) ⊎ (caller_of e ≡ c)) past
alone_in c flush [] are = tt
alone_in c flush (e ∷ past) are = cases (alone_in c flush past) (is_of_flush flush e) refl are
  where
    both : (a b : Bool) → (a && b) ≡ true → (a ≡ true) × (b ≡ true)
    both true b h = (refl, h)
    both false b h = absurd (cc)

    cases : (list_all (λ x. nat_eq x c) (other_callers flush past) ≡ true → AllByRecursion (λ e. (is_of_flush flush e ≡ true) ⊎ (caller_of e ≡ c)) past) → (b : Bool) → is_of_flush flush e ≡ b
        → list_all (λ x. nat_eq x c) (cond b (other_callers flush past) (caller_of e ∷ other_callers flush past)) ≡ true
        → ((is_of_flush flush e ≡ true) ⊎ (caller_of e ≡ c)) × AllByRecursion (λ e. (is_of_flush flush e ≡ true) ⊎ (caller_of e ≡ c)) past
    cases next true t all = (inl t, next all)
    cases next false t all = let parts = both (nat_eq (caller_of e) c) (list_all (λ x. nat_eq x c) (other_callers flush past)) all in (inr (number_is (caller_of e) c parts.0), next parts.1)

-- and the flush is a clean
flushed : (flush : Option ℕ) (c : ℕ) (mine : List Event) → AllByRecursion (λ e. is_of_flush flush e ≡ true → is_of_clean e ≡ true) mine → AllByRecursion (λ e. (is_of_flush flush e ≡ true) ⊎ (caller_of e ≡ c)) mine
    → AllByRecursion (λ e. ((is_of_flush flush e ≡ true) × (is_of_clean e ≡ true)) ⊎ (caller_of e ≡ c)) mine
flushed flush c [] clean all = tt
flushed flush c (e ∷ mine) clean all = (at all.0, flushed flush c mine clean.1 all.1)
  where
    at : ((is_of_flush flush e ≡ true) ⊎ (caller_of e ≡ c)) → ((is_of_flush flush e ≡ true) × (is_of_clean e ≡ true)) ⊎ (caller_of e ≡ c)
    at (inl t) = inl (t, clean.0 t)
    at (inr is) = inr is

-- only the runner has a flush
runners : (flush : Option ℕ) (d : ℕ) (past : List Event) → nat_eq d 0 ≡ false → AllByRecursion (λ e. is_of_flush flush e ≡ true → is_of_clean e ≡ true) (own d past)
runners flush d [] other = tt
runners flush d (e ∷ past) other =
    own_by (AllByRecursion (λ e. is_of_flush flush e ≡ true → is_of_clean e ≡ true)) d e past (λ is. (λ t. absurd (never is t), runners flush d past other)) (λ f. runners flush d past other)
  where
    never : caller_of e ≡ d → is_of_flush flush e ≡ true → ⊥
    never is t =
        let f : nat_eq (caller_of e) 0 ≡ false = ap (λ n. nat_eq n 0) is ∙ other in
        let bad : is_of_flush flush e ≡ false = ap (λ (b : Bool). b && Rattle.std.specs.Option.option_map_or (λ n. nat_eq n (number_of e)) flush false) f in
        absurd (cc)

true_here : (c : ℕ) (h : List Entry) (e : Event) (past : List Event) → IsTrueBy c h (own (caller_of e) past) e → IsTrueOf h (held_by past c) e
true_here c h e past words = cases (nat_eq (caller_of e) c) refl
  where
    differ : nat_eq (caller_of e) c ≡ false → caller_of e ≡ c → ⊥
    differ f same = let t : nat_eq (caller_of e) c ≡ true = eq-eqb (caller_of e) c same in absurd (cc)

    cases : (b : Bool) → nat_eq (caller_of e) c ≡ b → IsTrueOf h (held_by past c) e
    cases true t = let T : ℕ → Type 0 = λ d. IsTrueOf h (open_fixes (own d past)) e in subst T (number_is (caller_of e) c t) (words.own (number_is (caller_of e) c t))
    cases false f = words.other (differ f) (held_by past c)

all_true : (c first : ℕ) (past : List Event) → IsPlaced first past → ((d : ℕ) → AreTrueBy c (entries past) (own d past)) → AreTrue (Some c) past
all_true c first [] placed words = tt
all_true c first (event.Entry e ∷ past) placed words =
    let x : Event = event.Entry e in
    (true_here c (entries past) x past (each_here (IsTrueBy c) first x past placed words), all_true c first past placed.1 (each_rest (IsTrueBy c) first x past placed words))
all_true c first (event.Receipt r ∷ past) placed words =
    let x : Event = event.Receipt r in
    (true_here c (entries past) x past (each_here (IsTrueBy c) first x past placed words), all_true c first past placed.1 (each_rest (IsTrueBy c) first x past placed words))

true_in : (o : Opening) (pages : ℕ → ℕ) (past : List Event) → IsPlaced o.first past → ((c : ℕ) → AreLawfulOf o pages (entries past) (own c past)) → AreTrueAlone (entries past) (λ c. own c past) → AreTrue (sole_of past) past
true_in o pages past placed laws words = cases (sole_of past) refl
  where
    none : (l : List Event) → AreTrue None l
    none [] = tt
    none (e ∷ l) = (tt, none l)

    clean : (d : ℕ) (b : Bool) → nat_eq d 0 ≡ b → AllByRecursion (λ e. is_of_flush (closing_number past) e ≡ true → is_of_clean e ≡ true) (own d past)
    clean d true t = let C : ℕ → Type 0 = λ n. AllByRecursion (λ e. is_of_flush (closing_number past) e ≡ true → is_of_clean e ≡ true) (own n past) in
        subst C (sym (number_is d 0 t)) (closing_clean o pages (entries past) past (laws 0))
    clean d false f = runners (closing_number past) d past f

    cases : (sole : Option ℕ) → sole_of past ≡ sole → AreTrue sole past
    cases None is = none past
    cases (Some c) is =
        let flush = closing_number past in
        let alone = alone_in c flush past (all_are c (other_callers flush past) is) in
        all_true c o.first past placed (words c flush (λ d. flushed flush c (own d past) (clean d (nat_eq d 0) refl) (all_own (λ e. (is_of_flush flush e ≡ true) ⊎ (caller_of e ≡ c)) d past alone)))

-- Each call has its answer.
numbers_from : (o : Opening) (pages : ℕ → ℕ) (h : List Entry) (mine : List Event) → AreLawfulOf o pages h mine → AllByRecursion (λ e. 1 ≤ number_of e) mine
numbers_from o pages h [] laws = tt
numbers_from o pages h (event.Entry e ∷ mine) laws = (least mine e.number laws.0.legal.number, numbers_from o pages h mine laws.1)
  where
    least : (mine : List Event) (n : ℕ) → IsNumbered mine n → 1 ≤ n
    least mine n (inl next) = omega (arith, next)
    least mine n (inr earlier) = earlier.first
numbers_from o pages h (event.Receipt r ∷ mine) laws = (least mine r.number laws.0.legal.number, numbers_from o pages h mine laws.1)
  where
    least : (mine : List Event) (n : ℕ) → IsNumbered mine n → 1 ≤ n
    least mine n (inl next) = omega (arith, next)
    least mine n (inr earlier) = earlier.first

numbers_to : (n : ℕ) (mine : List Event) → calls_of mine < n → AllByRecursion (λ e. number_of e < n) mine
numbers_to n [] less = tt
numbers_to n (e ∷ mine) less = let parts = most_parts (number_of e) (calls_of mine) n less in (parts.0, numbers_to n mine parts.1)

both_all : (P Q R : Event → Type 0) (xs : List Event) → ((x : Event) → P x → Q x → R x) → AllByRecursion P xs → AllByRecursion Q xs → AllByRecursion R xs
both_all P Q R [] f ps qs = tt
both_all P Q R (x ∷ xs) f ps qs = (f x ps.0 qs.0, both_all P Q R xs f ps.1 qs.1)

all_settled : (o : Opening) (pages : ℕ → ℕ) (past : List Event) → ((c : ℕ) → AreLawfulOf o pages (entries past) (own c past)) → ((c : ℕ) → IsAnswered o (entries past) c (own c past)) → AllByRecursion (IsSettled o past) past
all_settled o pages past laws answered =
    let S : ℕ → Event → Type 0 = λ c e. (is_answered (number_of e) (own c past) ≡ true) ⊎ IsCutShort o past c (number_of e) in
    all_of_own S past (λ c.
    let mine = own c past in
    both_all (λ e. 1 ≤ number_of e) (λ e. number_of e < calls_of mine + 1) (S c) mine (λ e least most. answered c (number_of e) least (omega (arith, most)))
    (numbers_from o pages (entries past) mine (laws c)) (numbers_to (calls_of mine + 1) mine (omega arith)))

-- What stands behind a Shrink, Grow or Undo.
own_own : (c : ℕ) (past : List Event) → own c (own c past) ≡ own c past
own_own c [] = refl
own_own c (e ∷ past) = own_by (λ l. own c l ≡ l) c e past
    (λ is. ap (λ (b : Bool). cond b (e ∷ own c (own c past)) (own c (own c past))) (eq-eqb (caller_of e) c is) ∙ ap (λ l. e ∷ l) (own_own c past)) (λ other. own_own c past)

all_followed : (past : List Event) (next : Option Entry) (h : List Entry) → AreEnded (λ c. own c past) next h → AreFollowed past next h
all_followed past next [] ended = tt
all_followed past next (e ∷ h) ended = (followed_by (own e.caller past) past next e e.kind (λ undo none. ap (is_answered e.number) (sym (own_own e.caller past)) ∙ none) ended.0, all_followed past (Some e) h ended.1)

-- What is merged is a lawful trail.
lawful_past : (o : Opening) (pages : ℕ → ℕ) (past : List Event) → IsPlaced o.first past → AreInOrder past → IsLawfulSoFar o pages (entries past) (λ c. own c past) → AreTrueAlone (entries past) (λ c. own c past)
    → AreDone o (entries past) (λ c. own c past) → IsLawfulTrail o (record { first = o.first; events = reverse past })
lawful_past o pages past placed ordered so words done =
    let back = reverse-reverse past in
    let each : AreLawful o (sole_of past) past =
    Rattle.trail.proofs.Judging.with_words o None (sole_of past) past (all_lawful o pages past placed ordered so.laws so.still) (true_in o pages past placed so.laws words) in
    let E : List Event → Type 0 = λ l. AreLawful o (sole_of l) l in
    let S : List Event → Type 0 = λ l. AllByRecursion (IsSettled o l) l in
    let F : List Event → Type 0 = λ l. AreFollowed l None (entries l) in
    record {
      first = refl;
      each = subst E (sym back) each;
      answered = subst S (sym back) (all_settled o pages past so.laws done.answered);
      followed = subst F (sym back) (all_followed past None (entries past) done.followed);
    }

-- The trail that is merged from a history and its accounts.
pub merged_lawful : (o : Opening) (pages : ℕ → ℕ) (h : List Entry) (accounts : ℕ → List Event) (past : List Event) → IsTrailOf o.first h accounts past → IsLawfulSoFar o pages h accounts → AreTrueAlone h accounts
    → AreDone o h accounts → IsLawfulTrail o (record { first = o.first; events = reverse past })
merged_lawful o pages h accounts past merged so words done =
    let same = own_account o.first h accounts past merged so.places.each in
    let mine : ℕ → List Event = λ c. own c past in
    let A : List Entry → Type 0 = λ l. IsLawfulSoFar o pages l mine × AreTrueAlone l mine × AreDone o l mine in
    let all : A (entries past) = subst A (sym merged.entries_are) (same_so_far o pages h accounts mine same so, same_true h accounts mine same words, same_done o h accounts mine same done) in
    lawful_past o pages past merged.placed merged.ordered all.0 all.1 all.2

-- The calls keep their promises in it.
promised_past : (o : Opening) (pages : ℕ → ℕ) (past : List Event) → IsPlaced o.first past → ((c : ℕ) → AreEach (IsPromised o pages) (entries past) (own c past)) → ArePromised o pages past
promised_past o pages [] placed each = tt
promised_past o pages (event.Entry e ∷ past) placed each =
    let x : Event = event.Entry e in (each_here (IsPromised o pages) o.first x past placed each, promised_past o pages past placed.1 (each_rest (IsPromised o pages) o.first x past placed each))
promised_past o pages (event.Receipt r ∷ past) placed each =
    let x : Event = event.Receipt r in (each_here (IsPromised o pages) o.first x past placed each, promised_past o pages past placed.1 (each_rest (IsPromised o pages) o.first x past placed each))

pub merged_promised : (o : Opening) (pages : ℕ → ℕ) (h : List Entry) (accounts : ℕ → List Event) (past : List Event) → IsTrailOf o.first h accounts past → ((c : ℕ) → IsAccount o.first h c (accounts c)) → ArePromisedSoFar o pages h accounts
    → ArePromised o pages past
merged_promised o pages h accounts past merged each promised =
    promised_past o pages past merged.placed (λ c.
    let E : List Event → Type 0 = λ mine. AreEach (IsPromised o pages) (entries past) mine in
    let H : List Entry → Type 0 = λ l. AreEach (IsPromised o pages) l (accounts c) in
    subst E (sym (own_account o.first h accounts past merged each c)) (subst H (sym merged.entries_are) (promised c)))
