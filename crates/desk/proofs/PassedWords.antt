-- The words of the frames that were passed, in the order of the search and in that of the frames.
use Rattle.std.proofs.Common.{◌≡◌, ◌^◌, ◌<◌, ◌≤◌, ◌+◌, ◌++◌, ◌==◌, inl, inr, ℕ, zero, suc, Bool, true, false, List, [], ◌∷◌, Option, None, Some, Result, Ok, Err, IfSome, IfOk, refl, ap, ◌∙◌, sym, subst, arith, eq-eqb}
use Rattle.std.specs.Prelude.{map, Contains, count_by, IsPermutation, IfNone, MatchResult}
use Rattle.std.specs.List.Sorted.{IsNonDecreasingBy}
use Rattle.std.specs.Option.{option_map}
use Rattle.std.proofs.lemmas.Bool.{eqb-true, cases_lt}
use Rattle.std.proofs.lemmas.List.{map_push}
use Rattle.std.proofs.lemmas.List.Sums.{sum_by-cons}
use Rattle.std.proofs.lemmas.List.Sorted.{Contains-permutation, sum_by-IsPermutation, IsPermutation-sym, IsPermutation-map}
use Rattle.page_ids.specs.Chunks.{rising}
use Rattle.page_ids.specs.Content.{Content}
use Rattle.page_ids.specs.FrameWord.{fixes_of, clock_of, IsAbove, AreRising}
use Rattle.page_ids.specs.Same.{same_page}
use Rattle.page_ids.specs.declared.frame_word.Word.{Word}
use Rattle.page_ids.specs.declared.ids.PageId.{PageId}
use Rattle.trail.specs.declared.event.Entry.{Entry}
use Rattle.trail.specs.History.{home}
use Rattle.trail.specs.Words.{IsFixedWord, AreFixedWords, frames_told}
use Rattle.trail.specs.Victim.{ArePassed}
use Rattle.frame_words.specs.Conditions.{IsUncovered, FindsUnfixed, AreFound}
use Rattle.frame_words.specs.Rows.{Row, IsFound, claimed_row}
use Rattle.frame_words.specs.Seen.{FramesSeen, row_at, with_row, Finds, noted}
use Rattle.desk.specs.Claimed.{HasLooked, IsTaken, ArePassedBy}
use Rattle.desk.specs.Steps.{row_in}
use Rattle.desk.specs.Victims.{AreFoundOn}
use Rattle.instance_lists.proofs.Dirt.{same_self, no_way}
use Rattle.trail.proofs.LookUps.{passed_of}
use Rattle.instance_lists.proofs.Walks.{one, times, contains_cases, contains_more, contains_first}

pub each_some : {A : Type 0} (o : Option A) (P : A → Type 0) → ((x : A) → o ≡ Some x → P x) → IfSome o P
each_some None P all = tt
each_some (Some x) P all = all x refl

pub at_some : {A : Type 0} (o : Option A) (P : A → Type 0) (x : A) → IfSome o P → o ≡ Some x → P x
at_some o P x is e = subst (λ (y : Option _). IfSome y P) e is

pub at_none : {A : Type 0} (o : Option A) (P : Type 0) → IfNone o P → o ≡ None → P
at_none o P is e = subst (λ (y : Option _). IfNone y P) e is

pub ok_none_map : {A E : Type 0} (r : Result (Option A) E) (P Q : Type 0) → (P → Q) → IfOk r (λ o. IfNone o P) → IfOk r (λ o. IfNone o Q)
ok_none_map (Ok None) P Q f is = f is
ok_none_map (Ok (Some x)) P Q f is = tt
ok_none_map (Err e) P Q f is = tt

pub ok_some_map : {A E : Type 0} (r : Result (Option A) E) (P Q : A → Type 0) → ((x : A) → P x → Q x) → IfOk r (λ o. IfSome o P) → IfOk r (λ o. IfSome o Q)
ok_some_map (Ok None) P Q f is = tt
ok_some_map (Ok (Some x)) P Q f is = f x is
ok_some_map (Err e) P Q f is = tt

pub looked_map : {A E : Type 0} (r : Result (Option A) E) (P Q : Type 0) → (P → Q) → MatchResult r (λ o. IfNone o P) (λ e. P) → MatchResult r (λ o. IfNone o Q) (λ e. Q)
looked_map (Ok None) P Q f is = f is
looked_map (Ok (Some x)) P Q f is = tt
looked_map (Err e) P Q f is = f is

-- nothing was looked at
pub looked_same : (s : FramesSeen) → HasLooked s s
looked_same s = record { found = s.found; is = refl; more = λ now is. (now, is, λ w c. c) }

pub looked_on : (a b c : FramesSeen) → HasLooked a b → HasLooked b c → HasLooked a c
looked_on a b c x y = record {
  found = y.found;
  is = y.is ∙ ap (λ (s : FramesSeen). record s { found = y.found }) x.is;
  more = λ now is.
      let next = y.more now is in
      let first = x.more next.0 (sym (ap (λ (s : FramesSeen). s.found) x.is) ∙ next.1) in
      (first.0, first.1, λ w here. next.2 w (first.2 w here));
}

noted_more : (o : Option (List (ℕ × Word))) (x : ℕ × Word) (now : List (ℕ × Word)) → option_map (λ xs. x ∷ xs) o ≡ Some now
    → (was : List (ℕ × Word)) × (o ≡ Some was) × ((w : ℕ × Word) → Contains was w → Contains now w)
noted_more None x now is = absurd (cc)
noted_more (Some was) x now is =
    let same : x ∷ was ≡ now = cc in
    (was, refl, λ w here. subst (λ (l : List (ℕ × Word)). Contains l w) same (contains_more x w was here))

pub looked_noted : (s : FramesSeen) (f : ℕ) (w : Word) → HasLooked s (noted s f w)
looked_noted s f w = record { found = option_map (λ found. (f, w) ∷ found) s.found; is = refl; more = noted_more s.found (f, w) }

pub noted_there : (o : Option (List (ℕ × Word))) (x : ℕ × Word) → IfSome (option_map (λ xs. x ∷ xs) o) (λ now. Contains now x)
noted_there None x = tt
noted_there (Some xs) x = contains_first x xs

-- no page was passed yet
pub passed_none : (h : List Entry) (rows : List Row) (found : Option (List (ℕ × Word))) → ArePassedBy h rows found [] []
passed_none h rows found = record { homes = refl; fixed = tt; seen = tt; noted = each_some found (λ now. AreFound now []) (λ now is. tt) }

found_within : (was now ws : List (ℕ × Word)) → ((w : ℕ × Word) → Contains was w → Contains now w) → AreFound was ws → AreFound now ws
found_within was now [] more found = tt
found_within was now (w ∷ ws) more found = (more w found.0, found_within was now ws more found.1)

found_push : (now ws : List (ℕ × Word)) (x : ℕ × Word) → AreFound now ws → Contains now x → AreFound now (ws ++ x ∷ [])
found_push now [] x found here = (here, tt)
found_push now (w ∷ ws) x found here = (found.0, found_push now ws x found.1 here)

fixed_push : (h : List Entry) (ws : List (ℕ × Word)) (x : ℕ × Word) → AreFixedWords h ws → IsFixedWord h x.0 x.1 → AreFixedWords h (ws ++ x ∷ [])
fixed_push h [] x fixed is = (is, tt)
fixed_push h (w ∷ ws) x fixed is = (fixed.0, fixed_push h ws x fixed.1 is)

seen_push : (rows : List Row) (ws : List (ℕ × Word)) (x : ℕ × Word) → AreFoundOn rows ws → IsFound (row_in rows x.0) 0 x.1 → 0 < fixes_of x.1 → AreFoundOn rows (ws ++ x ∷ [])
seen_push rows [] x seen is some = (is, some, tt)
seen_push rows (w ∷ ws) x seen is some = (seen.0, seen.1, seen_push rows ws x seen.2 is some)

-- more words were found meanwhile
pub passed_looked : (h : List Entry) (rows : List Row) (s t : FramesSeen) (pages : List PageId) (passed : List (ℕ × Word)) → HasLooked s t
    → ArePassedBy h rows s.found pages passed → ArePassedBy h rows t.found pages passed
passed_looked h rows s t pages passed looked are = record {
  homes = are.homes;
  fixed = are.fixed;
  seen = are.seen;
  noted = each_some t.found (λ now. AreFound now passed) (λ now is.
      let next = looked.more now (sym (ap (λ (u : FramesSeen). u.found) looked.is) ∙ is) in
      found_within next.0 now passed next.2 (at_some s.found (λ was. AreFound was passed) next.0 are.noted next.1));
}

-- one more page was passed
pub passed_push : (h : List Entry) (rows : List Row) (found : Option (List (ℕ × Word))) (pages : List PageId) (passed : List (ℕ × Word)) (p : PageId) (f : ℕ) (w : Word)
    → ArePassedBy h rows found pages passed → home h p ≡ Some f → IsFixedWord h f w → IsFound (row_in rows f) 0 w → 0 < fixes_of w → IfSome found (λ now. Contains now (f, w))
    → ArePassedBy h rows found (pages ++ p ∷ []) (passed ++ (f, w) ∷ [])
passed_push h rows found pages passed p f w are housed fixed seen some here = record {
  homes = map_push (home h) pages p
      ∙ ap (λ (l : List (Option ℕ)). l ++ home h p ∷ []) are.homes
      ∙ ap (λ (o : Option ℕ). map (λ (x : ℕ × Word). Some x.0) passed ++ o ∷ []) housed
      ∙ sym (map_push (λ (x : ℕ × Word). Some x.0) passed (f, w));
  fixed = fixed_push h passed (f, w) are.fixed fixed;
  seen = seen_push rows passed (f, w) are.seen seen some;
  noted = each_some found (λ now. AreFound now (passed ++ (f, w) ∷ [])) (λ now is.
      found_push now passed (f, w) (at_some found (λ now. AreFound now passed) now are.noted is) (at_some found (λ now. Contains now (f, w)) now here is));
}

-- each page that was passed has its frame's word
each_passed : (h : List Entry) (pages : List PageId) (passed : List (ℕ × Word)) → map (home h) pages ≡ map (λ (x : ℕ × Word). Some x.0) passed
    → (q : PageId) → Contains pages q → (f : ℕ) × (home h q ≡ Some f) × Contains (frames_told passed) f
each_passed h [] passed homes q here = let l = here.1 in absurd (omega (arith, l))
each_passed h (p ∷ ps) [] homes q here = absurd (cc)
each_passed h (p ∷ ps) (x ∷ xs) homes q here =
    let first : home h p ≡ Some x.0 = cc in
    let rest : map (home h) ps ≡ map (λ (x : ℕ × Word). Some x.0) xs = cc in
    elim (contains_cases p q ps here) [
      | inl same ↦ (x.0, ap (home h) (sym same) ∙ first, contains_first x.0 (frames_told xs))
      | inr more ↦ let found = each_passed h ps xs rest q more in (found.0, found.1, contains_more x.0 found.0 (frames_told xs) found.2)
    ]

only_passed : (h : List Entry) (pages : List PageId) (passed : List (ℕ × Word)) → map (home h) pages ≡ map (λ (x : ℕ × Word). Some x.0) passed
    → (f : ℕ) → Contains (frames_told passed) f → (q : PageId) × Contains pages q × (home h q ≡ Some f)
only_passed h pages [] homes f here = let l = here.1 in absurd (omega (arith, l))
only_passed h [] (x ∷ xs) homes f here = absurd (cc)
only_passed h (p ∷ ps) (x ∷ xs) homes f here =
    let first : home h p ≡ Some x.0 = cc in
    let rest : map (home h) ps ≡ map (λ (x : ℕ × Word). Some x.0) xs = cc in
    elim (contains_cases x.0 f (frames_told xs) here) [
      | inl same ↦ (p, contains_first p ps, first ∙ ap (λ (n : ℕ). Some n) same)
      | inr more ↦ let found = only_passed h ps xs rest f more in (found.0, contains_more p found.0 ps found.1, found.2)
    ]

fixed_at : (h : List Entry) (ws : List (ℕ × Word)) (x : ℕ × Word) → AreFixedWords h ws → Contains ws x → IsFixedWord h x.0 x.1
fixed_at h [] x fixed here = let l = here.1 in absurd (omega (arith, l))
fixed_at h (w ∷ ws) x fixed here = elim (contains_cases w x ws here) [
  | inl same ↦ subst (λ (y : ℕ × Word). IsFixedWord h y.0 y.1) same fixed.0
  | inr more ↦ fixed_at h ws x fixed.1 more
]

fixed_all : (h : List Entry) (ws : List (ℕ × Word)) → ((x : ℕ × Word) → Contains ws x → IsFixedWord h x.0 x.1) → AreFixedWords h ws
fixed_all h [] all = tt
fixed_all h (w ∷ ws) all = (all w (contains_first w ws), fixed_all h ws (λ x here. all x (contains_more w x ws here)))

seen_at : (rows : List Row) (ws : List (ℕ × Word)) (x : ℕ × Word) → AreFoundOn rows ws → Contains ws x → IsFound (row_in rows x.0) 0 x.1 × (0 < fixes_of x.1)
seen_at rows [] x seen here = let l = here.1 in absurd (omega (arith, l))
seen_at rows (w ∷ ws) x seen here = elim (contains_cases w x ws here) [
  | inl same ↦ subst (λ (y : ℕ × Word). IsFound (row_in rows y.0) 0 y.1 × (0 < fixes_of y.1)) same (seen.0, seen.1)
  | inr more ↦ seen_at rows ws x seen.2 more
]

seen_all : (rows : List Row) (ws : List (ℕ × Word)) → ((x : ℕ × Word) → Contains ws x → IsFound (row_in rows x.0) 0 x.1 × (0 < fixes_of x.1)) → AreFoundOn rows ws
seen_all rows [] all = tt
seen_all rows (w ∷ ws) all = let first = all w (contains_first w ws) in (first.0, first.1, seen_all rows ws (λ x here. all x (contains_more w x ws here)))

found_at : (now ws : List (ℕ × Word)) (x : ℕ × Word) → AreFound now ws → Contains ws x → Contains now x
found_at now [] x found here = let l = here.1 in absurd (omega (arith, l))
found_at now (w ∷ ws) x found here = elim (contains_cases w x ws here) [
  | inl same ↦ subst (λ (y : ℕ × Word). Contains now y) same found.0
  | inr more ↦ found_at now ws x found.1 more
]

found_all : (now ws : List (ℕ × Word)) → ((x : ℕ × Word) → Contains ws x → Contains now x) → AreFound now ws
found_all now [] all = tt
found_all now (w ∷ ws) all = (all w (contains_first w ws), found_all now ws (λ x here. all x (contains_more w x ws here)))

-- how often a frame has a word
abbrev pub times_in : ℕ → List (ℕ × Word) → ℕ
times_in f xs = count_by (λ (x : ℕ × Word). x.0 == f) xs

times_cons : (f : ℕ) (x : ℕ × Word) (xs : List (ℕ × Word)) → times_in f (x ∷ xs) ≡ one (x.0 == f) + times_in f xs
times_cons f x xs = sum_by-cons (λ (y : ℕ × Word). one (y.0 == f)) x xs

one_most : (b : Bool) → one b ≤ 1
one_most true = omega arith
one_most false = omega arith

-- pages that are apart, each alone in its frame, have words of frames that are apart
frames_apart : (h : List Entry) (pages : List PageId) (passed : List (ℕ × Word)) (f : ℕ) (p : PageId) → map (home h) pages ≡ map (λ (x : ℕ × Word). Some x.0) passed
    → ((q : PageId) → home h q ≡ Some f → q ≡ p) → times_in f passed ≤ times p pages
frames_apart h pages [] f p homes alone = omega arith
frames_apart h [] (x ∷ xs) f p homes alone = absurd (cc)
frames_apart h (q ∷ qs) (x ∷ xs) f p homes alone = go (x.0 == f) refl (frames_apart h qs xs f p rest alone)
  where
    first : home h q ≡ Some x.0
    first = cc

    rest : map (home h) qs ≡ map (λ (y : ℕ × Word). Some y.0) xs
    rest = cc

    go : (b : Bool) → (x.0 == f) ≡ b → times_in f xs ≤ times p qs → times_in f (x ∷ xs) ≤ times p (q ∷ qs)
    go true is less =
        let same : q ≡ p = alone q (first ∙ ap (λ (n : ℕ). Some n) (eqb-true x.0 f is)) in
        let met : same_page q p ≡ true = ap (λ (r : PageId). same_page r p) same ∙ same_self p in
        let count = times_cons f x xs in
        let now : one (x.0 == f) ≡ 1 = ap one is in
        let here : one (same_page q p) ≡ 1 = ap one met in
        omega (arith, less, count, now, here)
    go false is less =
        let count = times_cons f x xs in
        let now : one (x.0 == f) ≡ 0 = ap one is in
        omega (arith, less, count, now)

-- where a frame has at most one word, words in order of frame rise
rising_from : (ws : List (ℕ × Word)) → IsNonDecreasingBy (λ (x : ℕ × Word). x.0) ws → ((f : ℕ) → times_in f ws ≤ 1) → AreRising ws
rising_from [] sorted apart = tt
rising_from (w ∷ []) sorted apart = (tt, tt)
rising_from (w ∷ v ∷ ws) sorted apart = (above, rising_from (v ∷ ws) less (λ f. let most = apart f in let count = times_cons f w (v ∷ ws) in omega (arith, most, count)))
  where
    less : IsNonDecreasingBy (λ (x : ℕ × Word). x.0) (v ∷ ws)
    less i j d le lt = sorted (suc i) (suc j) d (omega (arith, le)) (omega (arith, lt))

    go : (b : Bool) → (v.0 == w.0) ≡ b → w.0 ≤ v.0 → w.0 < v.0
    go true is le =
        let most = apart w.0 in
        let count = times_cons w.0 w (v ∷ ws) in
        let more = times_cons w.0 v ws in
        let first : one (w.0 == w.0) ≡ 1 = ap one (eq-eqb w.0 w.0 refl) in
        let next : one (v.0 == w.0) ≡ 1 = ap one is in
        absurd (omega (arith, most, count, more, first, next))
    go false is le = elim (cases_lt w.0 v.0) [
      | inl lt ↦ lt
      | inr ge ↦ let same : v.0 ≡ w.0 = omega (arith, le, ge) in absurd (no_way (sym (eq-eqb v.0 w.0 same) ∙ is))
    ]

    above : w.0 < v.0
    above = go (v.0 == w.0) refl (sorted 0 1 w (omega arith) (omega arith))

-- the words are those of just these pages
pub record AreJustOf (h : List Entry) (pages : List PageId) (passed : List (ℕ × Word)) : Type 0 where
  pub each : (q : PageId) → Contains pages q → (f : ℕ) × (home h q ≡ Some f) × Contains (frames_told passed) f
  pub only : (f : ℕ) → Contains (frames_told passed) f → (q : PageId) × Contains pages q × (home h q ≡ Some f)
  pub fixed : AreFixedWords h passed

pub just_passed : (h : List Entry) (pages : List PageId) (passed : List (ℕ × Word)) → AreJustOf h pages passed → ArePassed h pages passed
just_passed h pages passed are = passed_of h pages passed are.each are.only are.fixed

-- what holds of the words in order of frame
pub record AreInOrder (h : List Entry) (rows : List Row) (found : Option (List (ℕ × Word))) (pages : List PageId) (words : List (ℕ × Word)) : Type 0 where
  pub passed_are : AreJustOf h pages words
  pub seen : AreFoundOn rows words
  pub noted : IfSome found (λ now. AreFound now words)
  pub rising : AreRising words

-- at most one page in front has a frame as its home, and it stands there once
pub record AreOnce (h : List Entry) (pages : List PageId) : Type 0 where
  pub once : (p : PageId) → times p pages ≤ 1
  pub alone : (p q : PageId) (f : ℕ) → home h p ≡ Some f → home h q ≡ Some f → q ≡ p

once_in : (h : List Entry) (pages : List PageId) (passed : List (ℕ × Word)) → map (home h) pages ≡ map (λ (x : ℕ × Word). Some x.0) passed → AreOnce h pages → (f : ℕ) → times_in f passed ≤ 1
once_in h pages [] homes are f = omega arith
once_in h [] (x ∷ xs) homes are f = absurd (cc)
once_in h (q ∷ qs) (x ∷ xs) homes are f = go (x.0 == f) refl (once_in h qs xs rest (record { once = λ p. let most = are.once p in omega (arith, most); alone = are.alone }) f)
  where
    first : home h q ≡ Some x.0
    first = cc

    rest : map (home h) qs ≡ map (λ (y : ℕ × Word). Some y.0) xs
    rest = cc

    go : (b : Bool) → (x.0 == f) ≡ b → times_in f xs ≤ 1 → times_in f (x ∷ xs) ≤ 1
    go true is less =
        let here : home h q ≡ Some f = first ∙ ap (λ (n : ℕ). Some n) (eqb-true x.0 f is) in
        let fewer = frames_apart h (q ∷ qs) (x ∷ xs) f q homes (λ r there. are.alone q r f here there) in
        let most = are.once q in
        omega (arith, fewer, most)
    go false is less =
        let count = times_cons f x xs in
        let now : one (x.0 == f) ≡ 0 = ap one is in
        omega (arith, less, count, now)

-- words in the order of the search
pub passed_by_are : (h : List Entry) (rows : List Row) (found : Option (List (ℕ × Word))) (pages : List PageId) (passed : List (ℕ × Word)) → ArePassedBy h rows found pages passed → AreJustOf h pages passed
passed_by_are h rows found pages passed are = record { each = λ q here. each_passed h pages passed are.homes q here; only = λ f here. only_passed h pages passed are.homes f here; fixed = are.fixed }

pub in_order_are : (h : List Entry) (rows : List Row) (found : Option (List (ℕ × Word))) (pages : List PageId) (passed words : List (ℕ × Word))
    → ArePassedBy h rows found pages passed → AreOnce h pages → IsPermutation passed words → IsNonDecreasingBy (λ (x : ℕ × Word). x.0) words → AreInOrder h rows found pages words
in_order_are h rows found pages passed words are once same sorted =
    let back = IsPermutation-sym passed words same in
    let frames = IsPermutation-map (λ (x : ℕ × Word). x.0) passed words same in
    let frames_back = IsPermutation-map (λ (x : ℕ × Word). x.0) words passed back in
    record {
      passed_are = record {
        each = λ q here. let found = each_passed h pages passed are.homes q here in (found.0, found.1, Contains-permutation (frames_told passed) (frames_told words) found.0 frames found.2);
        only = λ f here. only_passed h pages passed are.homes f (Contains-permutation (frames_told words) (frames_told passed) f frames_back here);
        fixed = fixed_all h words (λ x here. fixed_at h passed x are.fixed (Contains-permutation words passed x back here));
      };
      seen = seen_all rows words (λ x here. seen_at rows passed x are.seen (Contains-permutation words passed x back here));
      noted = each_some found (λ now. AreFound now words) (λ now is.
          found_all now words (λ x here. found_at now passed x (at_some found (λ now. AreFound now passed) now are.noted is) (Contains-permutation words passed x back here)));
      rising = rising_from words sorted (λ f.
          let sum = sum_by-IsPermutation (λ (x : ℕ × Word). one (x.0 == f)) passed words same in
          let most = once_in h pages passed are.homes once f in
          omega (arith, sum, most));
    }

above_all : (f : ℕ) (ws : List (ℕ × Word)) → IsAbove f ws → AreRising ws → (g : ℕ) → Contains (frames_told ws) g → f < g
above_all f [] above rising g here = let l = here.1 in absurd (omega (arith, l))
above_all f (w ∷ ws) above rising g here = elim (contains_cases w.0 g (frames_told ws) here) [
  | inl same ↦ omega (arith, above, same)
  | inr more ↦ let later = above_all w.0 ws rising.0 rising.1 g more in omega (arith, above, later)
]

-- rising words of just the frames of a range are those of the frames one after the other
pub frames_are : (k n : ℕ) (ws : List (ℕ × Word)) → AreRising ws → ((f : ℕ) → k ≤ f → f < k + n → Contains (frames_told ws) f) → ((f : ℕ) → Contains (frames_told ws) f → (k ≤ f) × (f < k + n))
    → frames_told ws ≡ rising k n
frames_are k zero [] rises all only = refl
frames_are k zero (w ∷ ws) rises all only = let bad = only w.0 (contains_first w.0 (frames_told ws)) in absurd (omega (arith, bad.0, bad.1))
frames_are k (suc n) [] rises all only = let bad = (all k (omega arith) (omega arith)).1 in absurd (omega (arith, bad))
frames_are k (suc n) (w ∷ ws) rises all only =
    let within = only w.0 (contains_first w.0 (frames_told ws)) in
    let first : w.0 ≡ k = elim (contains_cases w.0 k (frames_told ws) (all k (omega arith) (omega arith))) [
      | inl same ↦ same
      | inr more ↦ let later = above_all w.0 ws rises.0 rises.1 k more in absurd (omega (arith, later, within.0))
    ] in
    let rest : frames_told ws ≡ rising (k + 1) n = frames_are (k + 1) n ws rises.1
    (λ f least most. elim (contains_cases w.0 f (frames_told ws) (all f (omega (arith, least)) (omega (arith, most)))) [
      | inl same ↦ absurd (omega (arith, same, first, least))
      | inr more ↦ more
    ])
    (λ f here.
    let later = above_all w.0 ws rises.0 rises.1 f here in
    let inside = only f (contains_more w.0 f (frames_told ws) here) in
    (omega (arith, later, first), omega (arith, inside.1))) in
    ap (λ (g : ℕ). g ∷ frames_told ws) first ∙ ap (λ (l : List ℕ). k ∷ l) rest

-- a frame was claimed behind a look at it
pub taken_after : (old mid new : FramesSeen) (h : List Entry) (p : PageId) (f : ℕ) (w : Word) (image : Option (Option Content)) → mid ≡ noted old f w → Finds old f w → IsUncovered mid f image → FindsUnfixed mid f
    → new ≡ with_row mid f (claimed_row (row_at mid f) image) → home h p ≡ Some f → w.bits < 2 ^ 64 → IsTaken old new h p f (clock_of w)
taken_after old mid new h p f w image looks found un unfixed is here small = record {
  claimed = record { mid = mid; looked = subst (λ (s : FramesSeen). HasLooked old s) (sym looks) (looked_noted old f w); image = image; uncovered = un; unfixed = unfixed; is = is };
  housed = here;
  clock_is = found.clock;
  early = omega (arith, small);
}

-- the claim was refused behind a look
pub refused_after : (old mid new : FramesSeen) (f : ℕ) (w word : Word) → mid ≡ noted old f w → Finds mid f word → new ≡ noted mid f word
    → Finds old f word × HasLooked old new × IfSome new.found (λ now. Contains now (f, word))
refused_after old mid new f w word looks found is = (
  subst (λ (s : FramesSeen). Finds s f word) looks found,
  subst (λ (s : FramesSeen). HasLooked old s) (sym is) (looked_on old mid (noted mid f word) (subst (λ (s : FramesSeen). HasLooked old s) (sym looks) (looked_noted old f w)) (looked_noted mid f word)),
  subst (λ (s : FramesSeen). IfSome s.found (λ now. Contains now (f, word))) (sym is) (noted_there mid.found (f, word)),
)
