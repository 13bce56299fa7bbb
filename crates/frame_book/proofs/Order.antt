-- Each call leaves both lists in order.
use Rattle.std.proofs.Common.{◌≡◌, ◌∙◌, ◌+◌, ◌-◌, ◌*◌, ◌<◌, ◌≤◌, ℕ, suc, Bool, true, false, not, cond, List, [], ◌∷◌, ◌++◌, ◌⊎◌, inl, inr, length, drop, Option, Some, None, refl, sym, ap, subst, arith, nat_le, unwrap_or}
use Rattle.std.specs.Prelude.{filter, IfSome}
use Rattle.std.specs.Option.{option_map_or}
use Rattle.std.proofs.lemmas.Bool.{cases_eq, cases_lt, cases_Bool, eq-eqb, true≢false}
use Rattle.std.proofs.Math.Nat.{mul-le-mul_right, suc-mul}
use Rattle.page_ids.specs.Chunks.{rising}
use Rattle.link_lists.specs.Grid.{times}
use Rattle.link_lists.proofs.Times.{times_at, times_past, times-append}
use Rattle.page_ids.specs.FrameLists as rule
use Rattle.page_ids.specs.FrameLists.{FrameLists}
use Rattle.frame_book.specs.View.{View, IsInUse, IsInOrder, IsAllWithdrawn, frames_of, is_inside, times_on, taken, given, grown, withdrawing, undone, finished}
use Rattle.frame_book.proofs.Times.{times-rest, times-passing, times-failing, times-rising_below, times-rising_above, times-rising_le}
use Rattle.frame_book.proofs.Counted.{length_from_all, all_from_length}

-- where an area is open, and where it isn't
pub inside_open : (v : View) (from f : ℕ) → v.area ≡ Some from → is_inside v f ≡ nat_le (from * v.frames) f
inside_open v from f e = ap (λ (a : Option ℕ). option_map_or (λ from. nat_le (from * v.frames) f) a false) e

pub inside_closed : (v : View) (f : ℕ) → v.area ≡ None → is_inside v f ≡ false
inside_closed v f e = ap (λ (a : Option ℕ). option_map_or (λ from. nat_le (from * v.frames) f) a false) e

pub area_bounds : (v : View) (from : ℕ) → IsInOrder v → v.area ≡ Some from → (1 ≤ from) × (from < v.chunks)
area_bounds v from h e = subst (λ (a : Option ℕ). IfSome a (λ from. (1 ≤ from) × (from < v.chunks))) e h.area

-- the front of the free list is taken
abbrev rest_of : FrameLists → FrameLists
rest_of l = record l { free = drop 1 l.free }

taken-lists : (free withdrawn : List ℕ) (l : FrameLists) → l ≡ record { free = free; withdrawn = withdrawn }
    → option_map_or (λ f. rule.taken f l) (rule.front l.free) l ≡ rest_of l
taken-lists [] withdrawn l e = subst (λ (l : FrameLists). option_map_or (λ f. rule.taken f l) (rule.front l.free) l ≡ rest_of l) (sym e) refl
taken-lists (f ∷ fs) withdrawn l e =
    subst (λ (l : FrameLists). option_map_or (λ f. rule.taken f l) (rule.front l.free) l ≡ rest_of l) (sym e)
    (ap (λ b. let l : FrameLists = record { free = cond b fs (f ∷ rule.without f fs); withdrawn = withdrawn } in l) (eq-eqb f f refl))

pub taken_is : (v : View) → taken v ≡ record v { lists = rest_of v.lists }
taken_is v = ap (λ (l : FrameLists). let w : View = record v { lists = l } in w) (taken-lists v.lists.free v.lists.withdrawn v.lists refl)

pub order-taken : (v : View) → IsInOrder v → IsInOrder (taken v)
order-taken v h = subst IsInOrder (sym (taken_is v)) (record {
  few = h.few;
  most = h.most;
  full = h.full;
  area = h.area;
  once = λ f. omega (arith, times-rest f v.lists.free, h.once f);
  there = λ f l. h.there f (omega (arith, times-rest f v.lists.free, l));
  free = λ f l. h.free f (omega (arith, times-rest f v.lists.free, l));
  withdrawn = h.withdrawn;
  closed = h.closed;
})

-- the frame that was taken is in use
in_use-taken : (v : View) (f : ℕ) → IsInOrder v → v.lists.free ≡ f ∷ drop 1 v.lists.free → IsInUse (record v { lists = rest_of v.lists }) f
in_use-taken v f h front =
    let all = ap (times f) front ∙ times_at f (drop 1 v.lists.free) in record {
      there = h.there f (omega (arith, all));
      away = omega (arith, all, h.once f);
    }

pub in_use-front : (v : View) (r : Option ℕ) → IsInOrder v → r ≡ rule.front v.lists.free → IfSome r (λ f. IsInUse (taken v) f)
in_use-front v None h front = tt {0}
in_use-front v (Some f) h front = subst (λ (w : View). IsInUse w f) (sym (taken_is v)) (in_use-taken v f h (starts v.lists.free front))
  where
    starts : (xs : List ℕ) → Some f ≡ rule.front xs → xs ≡ f ∷ drop 1 xs
    starts [] e = absurd (cc)
    starts (x ∷ xs) e = let same : f ≡ x = cc in ap (λ y. y ∷ xs) (sym same)

-- one frame more at the end of a list
push_cases : (g f : ℕ) (xs : List ℕ) → ((g ≡ f) × (times g (xs ++ f ∷ []) ≡ times g xs + 1)) ⊎ (times g (xs ++ f ∷ []) ≡ times g xs)
push_cases g f xs = elim (cases_eq f g) [
  | inl same ↦
      let own = ap (λ k. times g (k ∷ [])) same ∙ times_at g [] in
      inl (sym same, omega (arith, own, times-append g xs (f ∷ [])))
  | inr ne ↦ inr (omega (arith, times_past g f [] ne, times-append g xs (f ∷ [])))
]

-- and on both together
given_cases : (b : Bool) (g f : ℕ) (l : FrameLists) → ((g ≡ f) × (times_on (rule.given b f l) g ≡ times_on l g + 1)) ⊎ (times_on (rule.given b f l) g ≡ times_on l g)
given_cases true g f l = elim (push_cases g f l.withdrawn) [ inl own ↦ inl (own.0, omega (arith, own.1)) | inr e ↦ inr (omega (arith, e)) ]
given_cases false g f l = elim (push_cases g f l.free) [ inl own ↦ inl (own.0, omega (arith, own.1)) | inr e ↦ inr (omega (arith, e)) ]

pub order-given : (v : View) (f : ℕ) → IsInOrder v → IsInUse v f → IsInOrder (given f v)
order-given v f h new = by_test (is_inside v f) refl
  where
    free : (b : Bool) → is_inside v f ≡ b → (g : ℕ) → 0 < times g (rule.given b f v.lists).free → is_inside v g ≡ false
    free true inside g l = h.free g l
    free false outside g l = elim (push_cases g f v.lists.free) [ inl own ↦ ap (is_inside v) own.0 ∙ outside | inr e ↦ h.free g (omega (arith, e, l)) ]

    withdrawn : (b : Bool) → is_inside v f ≡ b → (g : ℕ) → 0 < times g (rule.given b f v.lists).withdrawn → is_inside v g ≡ true
    withdrawn true inside g l = elim (push_cases g f v.lists.withdrawn) [ inl own ↦ ap (is_inside v) own.0 ∙ inside | inr e ↦ h.withdrawn g (omega (arith, e, l)) ]
    withdrawn false outside g l = h.withdrawn g l

    closed : (b : Bool) → is_inside v f ≡ b → v.area ≡ None → (rule.given b f v.lists).withdrawn ≡ []
    closed true inside e = absurd (true≢false (sym inside ∙ inside_closed v f e))
    closed false outside e = h.closed e

    by_test : (b : Bool) → is_inside v f ≡ b → IsInOrder (record v { lists = rule.given b f v.lists })
    by_test b is = record {
      few = h.few;
      most = h.most;
      full = h.full;
      area = h.area;
      once = λ g. elim (given_cases b g f v.lists) [
        | inl own ↦ let same = ap (λ k. times_on v.lists k) own.0 in omega (arith, own.1, same, new.away)
        | inr e ↦ omega (arith, e, h.once g)
      ];
      there = λ g l. elim (given_cases b g f v.lists) [
        | inl own ↦ omega (arith, own.0, new.there)
        | inr e ↦ h.there g (omega (arith, e, l))
      ];
      free = free b is;
      withdrawn = withdrawn b is;
      closed = closed b is;
    }

pub frames-grown : (chunks frames : ℕ) → (chunks + 1) * frames ≡ chunks * frames + frames
frames-grown chunks frames = let one : chunks + 1 ≡ suc chunks = omega arith in ap (λ n. n * frames) one ∙ suc-mul chunks frames

pub order-grown : (v : View) → IsInOrder v → v.area ≡ None → v.chunks < v.max → IsInOrder (grown v)
order-grown v h none less =
    let first = frames_of v in
    let all = frames-grown v.chunks v.frames in
    let added = λ (f : ℕ). times-append f v.lists.free (rising first v.frames) in record {
      few = h.few;
      most = omega (arith, less);
      full = h.full;
      area = subst (λ (a : Option ℕ). IfSome a (λ from. (1 ≤ from) × (from < v.chunks + 1))) (sym none) (tt {0});
      once = λ f. elim (cases_lt f first) [
        | inl below ↦ omega (arith, added f, times-rising_below f first v.frames below, h.once f)
        | inr past ↦ elim (cases_eq (times_on v.lists f) 0) [
          | inl away ↦ omega (arith, added f, times-rising_le f first v.frames, away)
          | inr ne ↦ absurd (omega (arith, h.there f (omega (arith, ne)), past))
        ]
      ];
      there = λ f l. elim (cases_lt f first) [
        | inl below ↦ omega (arith, all, below)
        | inr past ↦ elim (cases_lt f (first + v.frames)) [
          | inl below ↦ omega (arith, all, below)
          | inr above ↦ absurd (omega (arith, past, h.full, h.there f (omega (arith, added f, times-rising_above f first v.frames above, l))))
        ]
      ];
      free = λ f l. inside_closed v f none;
      withdrawn = h.withdrawn;
      closed = h.closed;
    }

pub order-withdrawing : (v : View) (from : ℕ) → IsInOrder v → v.area ≡ None → 1 ≤ from → from < v.chunks → IsInOrder (withdrawing from v)
order-withdrawing v from h none low high =
    let inside : ℕ → Bool = λ f. nat_le (from * v.frames) f in
    let outside : ℕ → Bool = λ f. not (nat_le (from * v.frames) f) in
    let nothing : (f : ℕ) → times f v.lists.withdrawn ≡ 0 = λ f. ap (times f) (h.closed none) in
    let added = λ (f : ℕ). times-append f v.lists.withdrawn (filter inside v.lists.free) in
    let same : (f : ℕ) → times_on (withdrawing from v).lists f ≡ times_on v.lists f = λ f. elim (cases_Bool (inside f)) [
      | inl e ↦ omega (arith, added f, times-passing inside f v.lists.free e, times-failing outside f v.lists.free (ap not e))
      | inr e ↦ omega (arith, added f, times-failing inside f v.lists.free e, times-passing outside f v.lists.free (ap not e))
    ] in record {
      few = h.few;
      most = h.most;
      full = h.full;
      area = (low, high);
      once = λ f. omega (arith, same f, h.once f);
      there = λ f l. h.there f (omega (arith, same f, l));
      free = λ f l. elim (cases_Bool (inside f)) [
        | inl e ↦ absurd (omega (arith, times-failing outside f v.lists.free (ap not e), l))
        | inr e ↦ e
      ];
      withdrawn = λ f l. elim (cases_Bool (inside f)) [
        | inl e ↦ e
        | inr e ↦ absurd (omega (arith, added f, nothing f, times-failing inside f v.lists.free e, l))
      ];
      closed = λ e. let bad : Some from ≡ None = e in absurd (cc);
    }

pub order-undone : (v : View) → IsInOrder v → IsInOrder (undone v)
order-undone v h = record {
  few = h.few;
  most = h.most;
  full = h.full;
  area = tt {0};
  once = λ f. omega (arith, times-append f v.lists.free v.lists.withdrawn, h.once f);
  there = λ f l. h.there f (omega (arith, times-append f v.lists.free v.lists.withdrawn, l));
  free = λ f l. refl;
  withdrawn = λ f l. absurd (omega (arith, l));
  closed = λ e. refl;
}

-- the view behind a withdrawal that ended
pub finished_is : (v : View) (from : ℕ) → v.area ≡ Some from → finished v ≡ record v { chunks = from; area = None; lists = rule.shrunk v.lists }
finished_is v from e = ap (λ (a : Option ℕ). let r : View = record v { chunks = unwrap_or a v.chunks; area = None; lists = rule.shrunk v.lists } in r) e

pub order-finished : (v : View) → IsInOrder v → IsAllWithdrawn v → IsInOrder (finished v)
order-finished v h all =
    let bounds = area_bounds v all.from h all.opened in
    subst IsInOrder (sym (finished_is v all.from all.opened)) (record {
      few = h.few;
      most = omega (arith, bounds.1, h.most);
      full = h.full;
      area = tt {0};
      once = λ f. omega (arith, h.once f);
      there = λ f l. elim (cases_lt f (all.from * v.frames)) [
        | inl below ↦ below
        | inr past ↦ absurd (omega (arith, l, h.once f, all.all f past (h.there f (omega (arith, l)))))
      ];
      free = λ f l. refl;
      withdrawn = λ f l. absurd (omega (arith, l));
      closed = λ e. refl;
    })

pub frames-finished : (v : View) → IsInOrder v → IsAllWithdrawn v → frames_of (finished v) ≤ frames_of v
frames-finished v h all =
    let bounds = area_bounds v all.from h all.opened in
    let fewer : unwrap_or v.area v.chunks ≤ v.chunks = omega (arith, bounds.1, ap (λ (v : View). v.chunks) (finished_is v all.from all.opened)) in
    mul-le-mul_right v.frames fewer

-- the frames of the area: from its first one on, up to the last that is there
withdrawn_within : (v : View) (from : ℕ) → IsInOrder v → v.area ≡ Some from
    → (f : ℕ) → 0 < times f v.lists.withdrawn → (from * v.frames ≤ f) × (f < from * v.frames + (frames_of v - from * v.frames))
withdrawn_within v from h opened f l =
    let less = mul-le-mul_right v.frames (let b = area_bounds v from h opened in let le : from ≤ v.chunks = omega (arith, b.1) in le) in
    let inside : nat_le (from * v.frames) f ≡ true = sym (inside_open v from f opened) ∙ h.withdrawn f l in
    let there = h.there f (omega (arith, l)) in
    let low : from * v.frames ≤ f = grind (arith, inside) in
    (low, omega (arith, less, there))

withdrawn_once : (v : View) → IsInOrder v → (f : ℕ) → times f v.lists.withdrawn ≤ 1
withdrawn_once v h f = omega (arith, h.once f)

-- as many are withdrawn as the area has frames: then all of them
pub all_by_length : (v : View) (from : ℕ) → IsInOrder v → v.area ≡ Some from → length v.lists.withdrawn ≡ frames_of v - from * v.frames → IsAllWithdrawn v
all_by_length v from h opened len =
    let all = all_from_length (from * v.frames) (frames_of v - from * v.frames) v.lists.withdrawn (withdrawn_within v from h opened) (withdrawn_once v h) len in record {
      from = from;
      opened = opened;
      all = λ f low high. all f low (omega (arith, low, high));
    }

pub length_by_all : (v : View) (from : ℕ) → IsInOrder v → v.area ≡ Some from → IsAllWithdrawn v → length v.lists.withdrawn ≡ frames_of v - from * v.frames
length_by_all v from h opened every =
    let same : Some every.from ≡ Some from = sym every.opened ∙ opened in
    let from_is : every.from ≡ from = cc in
    let first = ap (λ n. n * v.frames) from_is in
    length_from_all (from * v.frames) (frames_of v - from * v.frames) v.lists.withdrawn (withdrawn_within v from h opened) (withdrawn_once v h)
    (λ f low high. every.all f (omega (arith, first, low)) (omega (arith, low, high)))

-- a frame past those that are there is on neither list
pub none_there : (v : View) (f : ℕ) → IsInOrder v → frames_of v ≤ f → times_on v.lists f ≡ 0
none_there v f h past = elim (cases_lt 0 (times_on v.lists f)) [
  | inl l ↦ absurd (omega (arith, h.there f l, past))
  | inr g ↦ omega (arith, g)
]

-- the order says nothing of the room
pub order-room : (v : View) (room : ℕ) → IsInOrder v → IsInOrder (record v { room = room })
order-room v room h = record {
  few = h.few;
  most = h.most;
  full = h.full;
  area = h.area;
  once = h.once;
  there = h.there;
  free = h.free;
  withdrawn = h.withdrawn;
  closed = h.closed;
}
