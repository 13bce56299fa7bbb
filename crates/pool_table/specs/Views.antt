-- The views, and what each step makes of one.
use Rattle.std.specs.Prelude.{ℕ, map, Bool, true, false, List, [], ◌∷◌, ◌++◌, ◌+◌, ◌-◌, None, Some, length, nat_le, if◌then◌else◌}
use Rattle.frame_words.specs.Plain.{Plain}
use Rattle.redo_log.specs.Passes.{Known}
use Rattle.trail.specs.declared.event.Entry.{Entry}
use Rattle.trail.specs.declared.event.Receipt.{Receipt}
use Rattle.trail.specs.declared.event.Event.TheVariants as event
use Rattle.trail.specs.declared.event.Held.{Held}
use Rattle.trail.specs.Calls.{open_fixes}
use Rattle.pool_table.specs.declared.view.TheConstants.{PARTS}
use Rattle.pool_table.specs.declared.view.Account.{Account}
use Rattle.pool_table.specs.declared.view.View.{View}
use Rattle.pool_table.specs.Seen.{DeskSeen}

-- a view that knows nothing: what a join leaves
abbrev pub nobody : View
nobody = record {
  parts = 0;
  makes = false;
  passes = false;
  number = 0;
  turn = false;
  seen = [];
  mine = [];
  others = [];
  frames = None;
  redo = None;
  found = [];
  numbers = [];
  visits = [];
  latches = [];
  lifted = [];
  claimed = [];
  unpublished = [];
}

-- the first view makes all passes
abbrev pub first_view : View
first_view = record nobody { parts = PARTS; makes = true }

-- a pass that it gives, and itself then: the pass has no open fix and no turn
abbrev pub made_pass : View → View
made_pass v = record nobody { parts = 1; passes = true; number = v.number }

abbrev pub maker_after : View → View
maker_after v = record v { parts = v.parts - 1; number = v.number + 1 }

abbrev pub account_of : View → Account
account_of v = record { number = v.number; mine = v.mine; redo = v.redo }

abbrev pub numbers_of : List Account → List ℕ
numbers_of accounts = map (λ (a : Account). a.number) accounts

-- the accounts that a view brings
abbrev pub accounts_if : Bool → View → List Account
accounts_if true v = account_of v ∷ v.others
accounts_if false v = v.others

abbrev pub accounts_of : View → List Account
accounts_of v = accounts_if v.passes v

abbrev pub longer : List Entry → List Entry → List Entry
longer xs ys = if nat_le (length xs) (length ys) then ys else xs

-- a view that took in another with its accounts
abbrev pub joined : View → View → View
joined v w = record v { parts = v.parts + w.parts; seen = longer v.seen w.seen; others = v.others ++ accounts_of w; numbers = v.numbers ++ w.numbers }

-- it looked at the mark
abbrev pub looked : View → List Entry → View
looked v h = record v { seen = h }

-- it has the turn, and knows what the desk tells; and it gave the turn back
abbrev pub with_turn : View → DeskSeen → View
with_turn v d = record v { turn = true; seen = d.history; frames = Some d.frames; redo = Some d.known }

abbrev pub without_turn : View → View
without_turn v = record v { turn = false; frames = None }

-- it made this entry, or this receipt: the frames are these then, and its pass of the log knows this
abbrev pub appended : View → Entry → Plain → Known → View
appended v e g k = record v { seen = e ∷ v.seen; mine = event.Entry e ∷ v.mine; frames = Some g; redo = Some k }

abbrev pub noted_in_turn : View → Receipt → Plain → Known → View
noted_in_turn v r g k = record v { mine = event.Receipt r ∷ v.mine; frames = Some g; redo = Some k }

-- it looked at the mark and left this receipt at it, for which it needs no turn
abbrev pub noted : View → Receipt → List Entry → View
noted v r h = record v { seen = h; mine = event.Receipt r ∷ v.mine }

-- its open fixes
abbrev pub fixes_of : View → List Held
fixes_of v = open_fixes v.mine
