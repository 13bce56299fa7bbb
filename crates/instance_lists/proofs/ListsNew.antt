-- The lists of an empty history.
use Rattle.std.proofs.Common.{◌≡◌, ◌==◌, ℕ, zero, suc, List, [], ◌∷◌, ◌++◌, ◌+◌, ◌*◌, ◌<◌, ◌≤◌, Option, None, length, replicate, refl, ap, ◌∙◌, sym, subst, arith}
use Rattle.std.proofs.lemmas.List.{length-replicate}
use Rattle.std.proofs.lemmas.List.Elements.{All-nil}
use Rattle.page_ids.specs.Chunks.{chunks_of, rising}
use Rattle.page_ids.specs.Midpoint.{Order, numbers_of, empty_order, under, count_of}
use Rattle.page_ids.specs.declared.ids.PageId.{PageId}
use Rattle.page_ids.specs.declared.config.Config.{Config}
use Rattle.midpoint_lru.specs.View.{View}
use Rattle.flush_list.specs.View.{View as Flush}
use Rattle.trail.specs.declared.event.Dirty.{Dirty}
use Rattle.instance_lists.specs.KeptLists.{AreKept, Absent, AreOnceBelow, plain_book, tenant_in, newest_in}

rising_push : (from n : ℕ) → rising from (suc n) ≡ rising from n ++ (from + n) ∷ []
rising_push from zero = let same : from ≡ from + 0 = omega arith in ap (λ (f : ℕ). f ∷ []) same
rising_push from (suc n) =
    let same : from + 1 + n ≡ from + suc n = omega arith in
    ap (λ (l : List ℕ). from ∷ l) (rising_push (from + 1) n) ∙ ap (λ m. from ∷ (rising (from + 1) n ++ m ∷ [])) same

pub rising_more : (n : ℕ) → rising 0 (n + 1) ≡ rising 0 n ++ n ∷ []
rising_more n =
    let one : n + 1 ≡ suc n = omega arith in
    let none : 0 + n ≡ n = omega arith in
    ap (λ m. rising 0 m) one ∙ rising_push 0 n ∙ ap (λ m. rising 0 n ++ m ∷ []) none

pub length-rising : (from n : ℕ) → length (rising from n) ≡ n
length-rising from zero = refl
length-rising from (suc n) = ap suc (length-rising (from + 1) n)

absent_rising : (f from k : ℕ) → f < from → Absent f (rising from k)
absent_rising f from zero lt = tt
absent_rising f from (suc k) lt = (λ e. absurd (omega (arith, e, lt)), absent_rising f (from + 1) k (omega (arith, lt)))

frames_rising : (from k n : ℕ) → from + k ≤ n → AreOnceBelow n (rising from k)
frames_rising from zero n le = tt
frames_rising from (suc k) n le = (omega (arith, le), absent_rising from (from + 1) k (omega arith), frames_rising (from + 1) k n (omega (arith, le)))

present_rising : (f from k : ℕ) → from ≤ f → f < from + k → Absent f (rising from k) → ⊥
present_rising f from zero low high away = omega (arith, low, high)
present_rising f from (suc k) low high away = present_rising f (from + 1) k (omega (arith, low, away.0)) (omega (arith, high)) away.1

pub kept_new : (c : Config) (homes : PageId → Option ℕ) (tenants : List PageId) (free : List ℕ) (newest : List (Option ℕ)) (flush : Flush) (lru : View) (seats : ℕ)
    → chunks_of c ≡ 1 → ((p : PageId) → homes p ≡ None) → length tenants ≡ c.frames → free ≡ rising 0 c.frames
    → lru.numbers ≡ numbers_of c → lru.order ≡ empty_order → lru.room ≡ c.frames → c.frames ≤ seats
    → newest ≡ replicate c.frames None → flush ≡ record { listed = []; room = c.frames }
    → AreKept c [] homes tenants free None newest flush lru seats
kept_new c homes tenants free newest flush lru seats one empty count free_is numbers order room more none listed =
    let F : List ℕ → Type 0 = λ l. AreOnceBelow c.frames l in
    let all : chunks_of c * c.frames ≡ c.frames = ap (λ n. n * c.frames) one ∙ times_one c.frames in
    let long : length free ≡ c.frames = ap (length {A = ℕ}) free_is ∙ length-rising 0 c.frames in
    record {
      one = one;
      places = places c.first;
      homed = record {
        homes_are = empty;
        housed = λ p f e. absurd (cc);
        tenants_are = λ p f e. absurd (cc);
        tenant_count = count;
      };
      booked = record {
        book_is = ap (λ n. plain_book c (rising 0 n) []) all ∙ ap (λ l. plain_book c l []) (sym free_is);
        distinct = subst F (sym free_is) (frames_rising 0 c.frames c.frames (omega arith));
        taken = λ p f e. absurd (cc);
      };
      used = λ f below away. absurd (present_rising f 0 c.frames (omega arith) (omega (arith, below)) (subst (λ (l : List ℕ). Absent f l) free_is away));
      soiled = record {
        listed_are = ap (λ (v : Flush). v.listed) listed;
        room_is = ap (λ (v : Flush). v.room) listed;
        clean = λ p e. refl;
        newest_are = λ p f e. absurd (cc);
        vacant = λ f free. ap (λ (l : List (Option ℕ)). newest_in l f) none ∙ none_in c.frames f;
        newest_count = ap (length {A = Option ℕ}) none ∙ length-replicate c.frames None;
        logged = All-nil (λ (d : Dirty). (d.oldest ≤ 0) × (d.newest ≤ 0));
      };
      ordered = record {
        numbers_are = numbers;
        room_is = room;
        order_is = ap (under (tenant_in tenants)) (sym order);
        counted = λ f. ap (λ (o : Order ℕ). count_of (λ g. g == f) o.listed) order;
        evicts = omega (arith, ap (λ (o : Order ℕ). o.evicts) order);
      };
      frames = more;
      seated = omega (arith, long, more);
    }
  where
    times_one : (n : ℕ) → 1 * n ≡ n
    times_one n = omega arith

    none_in : (n f : ℕ) → newest_in (replicate n None) f ≡ None
    none_in zero f = refl
    none_in (suc n) zero = refl
    none_in (suc n) (suc f) = none_in n f

    places : (n : ℕ) → n ≡ n + 0
    places n = omega arith
