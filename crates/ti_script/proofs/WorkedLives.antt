-- Worked live scripts, and the first fault of some that are none, computed.
use Rattle.std.specs.Prelude.{ℕ, ◌≡◌, List, [], ◌∷◌, codes, replicate, Some, None, Ok}
use Rattle.std.proofs.Common.{refl, pos, negsuc}
use Rattle.serde_json.specs.Data.{Data, null, number, string, array, object, unsigned, negative, Items, no_items, item, no_members, member}
use Rattle.ti_types.specs.declared.event.Event.TheVariants as event
use Rattle.ti_types.specs.declared.call.Call.TheVariants.{FrameCount, Pop}
use Rattle.ti_types.specs.declared.step.Step.TheVariants.{Enter}
use Rattle.ti_types.specs.declared.state.Kind.TheVariants.{Park}
use Rattle.ti_types.specs.declared.numbers.ThreadNo.{ThreadNo}
use Rattle.ti_live.specs.declared.call.AgentCall.TheVariants as call
use Rattle.ti_script.specs.declared.fault.LimitName.TheVariants.{Depth}
use Rattle.ti_script.specs.declared.located.MemberName.TheVariants.{Limits, Own, Threads, Walks, Calls}
use Rattle.ti_script.specs.declared.located.Part.TheVariants.{Whole, Member, Element}
use Rattle.ti_script.specs.declared.located.LocatedFault.TheVariants.{Shape, Name, Limit}
use Rattle.ti_script.specs.Head.{limits_fault}
use Rattle.ti_script.specs.Walks.{cast_of}
use Rattle.ti_script.specs.Lives.{items_of, live_fault}

-- ---- documents

abbrev items : List Data → Items
items [] = no_items
items (d ∷ ds) = item d (items ds)

abbrev list : List Data → Data
list ds = array (items ds)

abbrev text : List ℕ → Data
text s = string s

abbrev whole : ℕ → Data
whole n = number (unsigned n)

abbrev limits : ℕ → Data
limits depth = object (member (codes "calls") (whole 8) (member (codes "depth") (whole depth) (member (codes "own") (whole 32) no_members)))

-- with these names of threads, these walks and these calls
abbrev document : (depth : ℕ) → (threads walks calls : Data) → Data
document depth threads walks calls = object
    (member (codes "agents") (list (text (codes "e") ∷ []))
    (member (codes "calls") calls
    (member (codes "limits") (limits depth)
    (member (codes "methods") (list (text (codes "a") ∷ []))
    (member (codes "threads") threads
    (member (codes "walks") walks no_members))))))

abbrev two : Data
two = list (text (codes "t0") ∷ text (codes "t1") ∷ [])

abbrev no_walks : Data
no_walks = list (list [] ∷ list [] ∷ [])

-- the calls of the one agent
abbrev calling : List Data → Data
calling calls = document 4 two no_walks (list (list calls ∷ []))

-- ---- lists and stacks of two threads that do nothing

abbrev t : ThreadNo
t = record { 0 = 0 }

abbrev u : ThreadNo
u = record { 0 = 1 }

abbrev ninth : ThreadNo
ninth = record { 0 = 9 }

abbrev listing : Data
listing = calling
    (list (text (codes "add") ∷ list (text (codes "can_suspend") ∷ []) ∷ [])
    ∷ list (text (codes "suspend_list") ∷ list (text (codes "t0") ∷ whole 9 ∷ []) ∷ [])
    ∷ list (text (codes "list") ∷ list (text (codes "t0") ∷ text (codes "t1") ∷ []) ∷ whole 2 ∷ [])
    ∷ list (text (codes "all") ∷ whole 2 ∷ [])
    ∷ list (text (codes "all") ∷ number (negative (negsuc 0)) ∷ [])
    ∷ list (text (codes "list") ∷ list (whole 9 ∷ []) ∷ whole 2 ∷ [])
    ∷ list (text (codes "resume_list") ∷ list [] ∷ [])
    ∷ list (text (codes "pop") ∷ text (codes "t1") ∷ [])
    ∷ [])

listing_is_read : live_fault listing ≡ None
listing_is_read = refl

what_is_listed : items_of (cast_of listing) listing ≡ Ok (
  ([] ∷ [] ∷ []),
  ((call.AddCaps (record { bits = 1 }) ∷ call.SuspendList (t ∷ ninth ∷ []) ∷ call.ListStacks (t ∷ u ∷ []) (pos 2) ∷ call.AllStacks (pos 2)
      ∷ call.AllStacks (negsuc 0) ∷ call.ListStacks (ninth ∷ []) (pos 2) ∷ call.ResumeList [] ∷ call.Ask u Pop ∷ []) ∷ []),
)
what_is_listed = refl

-- ---- operations, as events of their own threads

abbrev start : Data
start = list (text (codes "start") ∷ [])

abbrev walking : Data
walking = document 4 two (list (list (start ∷ list (text (codes "enter") ∷ text (codes "a") ∷ []) ∷ []) ∷ list (start ∷ list (text (codes "block") ∷ text (codes "park") ∷ []) ∷ []) ∷ []))
    (list (list (list (text (codes "count") ∷ text (codes "t1") ∷ []) ∷ []) ∷ []))

walking_is_read : live_fault walking ≡ None
walking_is_read = refl

what_is_walked : items_of (cast_of walking) walking ≡ Ok
    (((event.Start t ∷ event.Own t (Enter (record { 0 = 0 })) ∷ []) ∷ (event.Start u ∷ event.ToBlocked u Park ∷ []) ∷ []), ((call.Ask u FrameCount ∷ []) ∷ []))
what_is_walked = refl

-- ---- the head, and then the two lists

-- a member that is missing is named, the first of two of them, and one too many is not
nothing_is_there : live_fault (object no_members) ≡ Some (Shape 0 (Member Limits))
nothing_is_there = refl

no_object : live_fault null ≡ Some (Shape 0 Whole)
no_object = refl

limits_are_no_object : limits_fault null ≡ Some (Shape 0 (Member Limits))
limits_are_no_object = refl

no_own : limits_fault (object (member (codes "calls") (whole 8) (member (codes "depth") (whole 4) no_members))) ≡ Some (Shape 0 (Member Own))
no_own = refl

one_limit_more : limits_fault (object (member (codes "calls") (whole 8) (member (codes "depth") (whole 4) (member (codes "own") (whole 32) (member (codes "threads") (whole 2) no_members))))) ≡ Some (Shape 0 (Member Limits))
one_limit_more = refl

own_is_a_text : limits_fault (object (member (codes "calls") (text []) (member (codes "depth") (whole 4) (member (codes "own") (text []) no_members)))) ≡ Some (Shape 0 (Member Own))
own_is_a_text = refl

depth_comes_first : live_fault (document 0 null null null) ≡ Some (Limit Depth)
depth_comes_first = refl

names_come_next : live_fault (document 4 (list (text (codes "t0") ∷ text (codes "t0") ∷ [])) null null) ≡ Some (Name 0 (Member Threads))
names_come_next = refl

no_array : live_fault (document 4 two null (list (list [] ∷ []))) ≡ Some (Shape 0 (Member Walks))
no_array = refl

one_walk_of_two : live_fault (document 4 two (list (list [] ∷ [])) (list (list [] ∷ []))) ≡ Some (Shape 0 (Member Walks))
one_walk_of_two = refl

a_walk_is_no_array : live_fault (document 4 two (list (list [] ∷ null ∷ [])) (list (list [] ∷ []))) ≡ Some (Shape 0 (Member Walks))
a_walk_is_no_array = refl

calls_of_two : live_fault (document 4 two no_walks (list (list [] ∷ list [] ∷ []))) ≡ Some (Shape 0 (Member Calls))
calls_of_two = refl

-- lists come before items
shape_before_items : live_fault (document 4 two (list (list (null ∷ []) ∷ list [] ∷ [])) null) ≡ Some (Shape 0 (Member Calls))
shape_before_items = refl

-- ---- items are numbered over the walks, and then on over the calls

abbrev jump : Data
jump = list (text (codes "jump") ∷ [])

second_walk : live_fault (document 4 two (list (list (start ∷ []) ∷ list (start ∷ jump ∷ []) ∷ [])) (list (list (jump ∷ []) ∷ []))) ≡ Some (Shape 3 (Element 0))
second_walk = refl

first_call : live_fault (document 4 two (list (list (start ∷ []) ∷ list (start ∷ []) ∷ [])) (list (list (jump ∷ []) ∷ []))) ≡ Some (Shape 3 (Element 0))
first_call = refl

second_call : live_fault (document 4 two (list (list (start ∷ []) ∷ list (start ∷ []) ∷ [])) (list (list (list (text (codes "caps") ∷ []) ∷ jump ∷ []) ∷ []))) ≡ Some (Shape 4 (Element 0))
second_call = refl

-- ---- within an item

no_text : live_fault (calling (list [] ∷ [])) ≡ Some (Shape 1 Whole)
no_text = refl

no_word : live_fault (calling (list (whole 5 ∷ []) ∷ [])) ≡ Some (Shape 1 (Element 0))
no_word = refl

with_its_subject : live_fault (calling (list (text (codes "e") ∷ text (codes "caps") ∷ []) ∷ [])) ≡ Some (Shape 1 (Element 0))
with_its_subject = refl

-- an agent has no stop of its own, and a thread no call
no_stop : live_fault (calling (list (text (codes "stop") ∷ text (codes "t0") ∷ []) ∷ [])) ≡ Some (Shape 1 (Element 0))
no_stop = refl

no_call_of_a_thread : live_fault (document 4 two (list (list (list (text (codes "all") ∷ whole 1 ∷ []) ∷ []) ∷ list [] ∷ [])) (list (list [] ∷ []))) ≡ Some (Shape 1 (Element 0))
no_call_of_a_thread = refl

one_more_element : live_fault (calling (list (text (codes "all") ∷ whole 1 ∷ whole 1 ∷ []) ∷ [])) ≡ Some (Shape 1 Whole)
one_more_element = refl

-- a list's kinds before its names, and its names before the count after it
kinds_first : live_fault (calling (list (text (codes "list") ∷ list (text (codes "zz") ∷ null ∷ []) ∷ whole 1 ∷ []) ∷ [])) ≡ Some (Shape 1 (Element 1))
kinds_first = refl

names_then : live_fault (calling (list (text (codes "list") ∷ list (text (codes "zz") ∷ []) ∷ null ∷ []) ∷ [])) ≡ Some (Name 1 (Element 1))
names_then = refl

count_then : live_fault (calling (list (text (codes "list") ∷ list (text (codes "t0") ∷ []) ∷ null ∷ []) ∷ [])) ≡ Some (Shape 1 (Element 2))
count_then = refl

-- at most 1,024 elements
as_many_as_may_be : live_fault (calling (list (text (codes "suspend_list") ∷ list (replicate 1024 (whole 9)) ∷ []) ∷ [])) ≡ None
as_many_as_may_be = refl

one_too_many : live_fault (calling (list (text (codes "suspend_list") ∷ list (replicate 1025 (text (codes "zz"))) ∷ []) ∷ [])) ≡ Some (Shape 1 (Element 1))
one_too_many = refl
