use mathlib.Core.Path.{◌≡◌, sym, ap}
use Prim.Native.Nat.{ℕ}
use lib.ListN.{get_or-eq_default}
use Rattle.codec_table.proofs.ColumnLaws.{none_of}
use Rattle.codec_table.specs.Columns.{packed, packed_at}
-- an arm's constant is its number's line
use Rattle.codec_table.proofs.entry_of.Goals as goal

arm : {n k : ℕ} → n ≡ k → packed_at k ≡ packed_at n
arm e = sym (ap packed_at e)

pub returns-in-0 : goal.returns-in-0
unfolding packed_at packed
returns-in-0 c = arm c.in-0.is

pub returns-in-1 : goal.returns-in-1
unfolding packed_at packed
returns-in-1 c = arm c.in-1.is

pub returns-in-2 : goal.returns-in-2
unfolding packed_at packed
returns-in-2 c = arm c.in-2.is

pub returns-in-3 : goal.returns-in-3
unfolding packed_at packed
returns-in-3 c = arm c.in-3.is

pub returns-in-4 : goal.returns-in-4
unfolding packed_at packed
returns-in-4 c = arm c.in-4.is

pub returns-in-5 : goal.returns-in-5
unfolding packed_at packed
returns-in-5 c = arm c.in-5.is

pub returns-in-6 : goal.returns-in-6
unfolding packed_at packed
returns-in-6 c = arm c.in-6.is

pub returns-in-7 : goal.returns-in-7
unfolding packed_at packed
returns-in-7 c = arm c.in-7.is

pub returns-in-8 : goal.returns-in-8
unfolding packed_at packed
returns-in-8 c = arm c.in-8.is

pub returns-in-9 : goal.returns-in-9
unfolding packed_at packed
returns-in-9 c = arm c.in-9.is

pub returns-in-10 : goal.returns-in-10
unfolding packed_at packed
returns-in-10 c = arm c.in-10.is

pub returns-in-11 : goal.returns-in-11
unfolding packed_at packed
returns-in-11 c = arm c.in-11.is

pub returns-in-12 : goal.returns-in-12
unfolding packed_at packed
returns-in-12 c = arm c.in-12.is

pub returns-in-13 : goal.returns-in-13
unfolding packed_at packed
returns-in-13 c = arm c.in-13.is

pub returns-in-14 : goal.returns-in-14
unfolding packed_at packed
returns-in-14 c = arm c.in-14.is

pub returns-in-15 : goal.returns-in-15
unfolding packed_at packed
returns-in-15 c = arm c.in-15.is

pub returns-in-16 : goal.returns-in-16
unfolding packed_at packed
returns-in-16 c = arm c.in-16.is

pub returns-in-17 : goal.returns-in-17
unfolding packed_at packed
returns-in-17 c = arm c.in-17.is

pub returns-in-18 : goal.returns-in-18
unfolding packed_at packed
returns-in-18 c = arm c.in-18.is

pub returns-in-19 : goal.returns-in-19
unfolding packed_at packed
returns-in-19 c = arm c.in-19.is

pub returns-in-20 : goal.returns-in-20
unfolding packed_at packed
returns-in-20 c = arm c.in-20.is

pub returns-in-21 : goal.returns-in-21
unfolding packed_at packed
returns-in-21 c = arm c.in-21.is

pub returns-in-22 : goal.returns-in-22
unfolding packed_at packed
returns-in-22 c = arm c.in-22.is

pub returns-in-23 : goal.returns-in-23
unfolding packed_at packed
returns-in-23 c = arm c.in-23.is

pub returns-in-24 : goal.returns-in-24
unfolding packed_at packed
returns-in-24 c = arm c.in-24.is

pub returns-in-25 : goal.returns-in-25
unfolding packed_at packed
returns-in-25 c = arm c.in-25.is

pub returns-in-26 : goal.returns-in-26
unfolding packed_at packed
returns-in-26 c = arm c.in-26.is

pub returns-in-27 : goal.returns-in-27
unfolding packed_at packed
returns-in-27 c = arm c.in-27.is

pub returns-in-28 : goal.returns-in-28
unfolding packed_at packed
returns-in-28 c = arm c.in-28.is

pub returns-in-29 : goal.returns-in-29
unfolding packed_at packed
returns-in-29 c = arm c.in-29.is

pub returns-in-30 : goal.returns-in-30
unfolding packed_at packed
returns-in-30 c = arm c.in-30.is

pub returns-in-31 : goal.returns-in-31
unfolding packed_at packed
returns-in-31 c = arm c.in-31.is

pub returns-in-32 : goal.returns-in-32
unfolding packed_at packed
returns-in-32 c = arm c.in-32.is

pub returns-in-33 : goal.returns-in-33
unfolding packed_at packed
returns-in-33 c = arm c.in-33.is

pub returns-in-34 : goal.returns-in-34
unfolding packed_at packed
returns-in-34 c = arm c.in-34.is

pub returns-in-35 : goal.returns-in-35
unfolding packed_at packed
returns-in-35 c = arm c.in-35.is

pub returns-in-36 : goal.returns-in-36
unfolding packed_at packed
returns-in-36 c = arm c.in-36.is

pub returns-in-37 : goal.returns-in-37
unfolding packed_at packed
returns-in-37 c = arm c.in-37.is

pub returns-in-38 : goal.returns-in-38
unfolding packed_at packed
returns-in-38 c = arm c.in-38.is

pub returns-in-39 : goal.returns-in-39
unfolding packed_at packed
returns-in-39 c = arm c.in-39.is

pub returns-in-40 : goal.returns-in-40
unfolding packed_at packed
returns-in-40 c = arm c.in-40.is

pub returns-in-41 : goal.returns-in-41
unfolding packed_at packed
returns-in-41 c = arm c.in-41.is

pub returns-in-42 : goal.returns-in-42
unfolding packed_at packed
returns-in-42 c = arm c.in-42.is

pub returns-in_default : goal.returns-in_default
unfolding packed_at packed
returns-in_default c = sym (get_or-eq_default packed 0x7777003 (none_of 43 c.in_default.in_default-own.rest))
