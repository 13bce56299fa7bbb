-- The numbers of a pool that are all fit.
use Rattle.std.proofs.Common.{ℕ, List, ◌∷◌, ◌≡◌, ◌+◌, ◌-◌, ◌*◌, ◌/◌, ◌^◌, ◌<◌, ◌≤◌, ◌&&◌, ◌∙◌, Bool, true, false, Option, None, Some, nat_le, length, drop, get_or, refl, sym, arith}
use Rattle.std.proofs.lemmas.Bool.{and_parts, leb-true}
use Rattle.std.proofs.lemmas.Bool.Decides.{nat_tests}
use Rattle.std.proofs.lemmas.List.{at_drop_more, at_drop_all}
use Rattle.std.proofs.lemmas.Nat.{le-div}
use Rattle.std.proofs.Math.Nat.{mul-le-mul, mul-div_cancel}
use Rattle.page_ids.specs.Size.{page_bytes}
use Rattle.page_ids.specs.Chunks.{unit_of, chunks_of}
use Rattle.page_ids.specs.Fields.{rounded, is_settable, setting_of, has_room, is_fit, first_unfit, judged, unfit_of, IsFit}
use Rattle.page_ids.specs.declared.config.Config.{Config}
use Rattle.page_ids.specs.declared.config.Field.{Field}
use Rattle.page_ids.specs.declared.config.Field.TheVariants.{Page, Instances, Frames, Size, Max, OldPct, OldTime, OldMin, Lsn, First}
use Rattle.page_ids.specs.declared.config.BadConfig.{BadConfig}
use Rattle.page_ids.specs.declared.limits.TheConstants.{LIMIT, MOST_FRAMES, MOST_BYTES}
use Rattle.page_ids.specs.declared.ids.PageSize.{PageSize}
use Rattle.page_ids.specs.declared.ids.PageSize.TheVariants.{Kib4, Kib8, Kib16}

some_bytes : (size : PageSize) → 1 ≤ page_bytes size
some_bytes Kib4 = omega arith
some_bytes Kib8 = omega arith
some_bytes Kib16 = omega arith

some_unit : (c : Config) → 1 ≤ c.frames → 1 ≤ c.instances → 1 ≤ unit_of c
some_unit c frames instances =
    let product : 1 * 1 ≤ page_bytes c.page * c.frames = mul-le-mul (some_bytes c.page) frames in
    let whole : 1 * 1 ≤ page_bytes c.page * c.frames * c.instances =
    (let some_product : 1 ≤ page_bytes c.page * c.frames = omega (arith, product) in mul-le-mul some_product instances) in
    omega (arith, whole)

some_chunk : (bytes unit : ℕ) → 1 ≤ bytes → 1 ≤ unit → 1 ≤ (bytes + unit - 1) / unit
some_chunk bytes unit some_bytes some = le-div 1 (bytes + unit - 1) unit some (omega (arith, some_bytes, some))

-- a size that is rounded up has as many units
pub whole_units : (bytes unit : ℕ) → 0 < unit → rounded bytes unit / unit ≡ (bytes + unit - 1) / unit
whole_units bytes unit some = mul-div_cancel ((bytes + unit - 1) / unit) some

-- where no field is unfit, the first one is fit, and no other is unfit
head_fit : (c : Config) (field : Field) (fields : List Field) → first_unfit c (field ∷ fields) ≡ None → (is_fit c field ≡ true) × (first_unfit c fields ≡ None)
head_fit c field fields e = cases (is_fit c field) refl
  where
    cases : (b : Bool) → is_fit c field ≡ b → (is_fit c field ≡ true) × (first_unfit c fields ≡ None)
    cases true t = (t, rw t at e)
    cases false t = let bad : ◌≡◌ {A = Option BadConfig} (Some (record { field = field; value = setting_of c field })) None = rw t at e in absurd (cc)

within : (low high n : ℕ) → (nat_le low n && nat_le n high) ≡ true → (low ≤ n) × (n ≤ high)
within low high n e = (grind (arith, nat_tests), grind (arith, nat_tests))

pub fit_of : (c : Config) → unfit_of c ≡ None → IsFit c
fit_of c e =
    let page = head_fit c Page (drop 1 judged) e in
    let instances = head_fit c Instances (drop 2 judged) page.1 in
    let frames = head_fit c Frames (drop 3 judged) instances.1 in
    let max = head_fit c Max (drop 4 judged) frames.1 in
    let size = head_fit c Size (drop 5 judged) max.1 in
    let pct = head_fit c OldPct (drop 6 judged) size.1 in
    let time = head_fit c OldTime (drop 7 judged) pct.1 in
    let min = head_fit c OldMin (drop 8 judged) time.1 in
    let lsn = head_fit c Lsn (drop 9 judged) min.1 in
    let first = head_fit c First (drop 10 judged) lsn.1 in
    let some_instance = within 1 16 c.instances instances.0 in
    let some_frame = within 1 8192 c.frames frames.0 in
    let rooms = and_parts (is_settable Max c.max) (has_room c) max.0 in
    let room = and_parts (nat_le (c.frames * c.max) MOST_FRAMES) _ rooms.1 in
    let sizes = and_parts (is_settable Size c.size) (nat_le (chunks_of c) c.max) size.0 in
    let some_size = within 1 MOST_BYTES c.size sizes.0 in
    let unit : 1 ≤ unit_of c = some_unit c some_frame.0 some_instance.0 in
    let last = within 1 (2 ^ 63 - 1) c.lsn lsn.0 in
    let long = within 0 (2 ^ 32 - 1) c.old_time time.0 in
    record {
      instances = some_instance;
      frames = some_frame;
      size = some_size;
      max = within 1 16 c.max rooms.0;
      room = leb-true _ _ room.0;
      bytes = leb-true _ _ room.1;
      chunks = (some_chunk c.size (unit_of c) some_size.0 unit, leb-true _ _ sizes.1);
      pct = within 5 95 c.old_pct pct.0;
      time = omega (arith, long.1);
      min = within 1 16384 c.old_min min.0;
      lsn = (last.0, omega (arith, last.1));
      first = (within 0 LIMIT c.first first.0).1;
    }

-- the fields from this one on, and those behind it
pub fit_more : (c : Config) (fields : List Field) (i : ℕ) → i < length fields → is_fit c (get_or fields i Page) ≡ true → first_unfit c (drop i fields) ≡ unfit_of c
    → first_unfit c (drop (i + 1) fields) ≡ unfit_of c
fit_more c fields i inside fit e =
    let same : first_unfit c (get_or fields i Page ∷ drop (i + 1) fields) ≡ first_unfit c (drop (i + 1) fields) = rw fit refl in
    sym same ∙ sym (at_drop_more (first_unfit c) fields i Page inside) ∙ e

pub all_fit : (c : Config) (fields : List Field) (i : ℕ) → length fields ≤ i → first_unfit c (drop i fields) ≡ unfit_of c → IsFit c
all_fit c fields i past e = fit_of c (sym e ∙ at_drop_all (first_unfit c) fields i past)
