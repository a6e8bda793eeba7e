use Rattle.std.proofs.Common.{◌≡◌, ◌^◌, ◌<◌, take}
use Rattle.book.proofs.Numbers.{value_from, Digits}
use Rattle.book.proofs.number.number.Given as goal

abbrev pub invariant-loop-c : goal.invariant-loop-c
invariant-loop-c l = record {
  value : l.n ≡ value_from 0 (take l.c-index l.word);
  digits : Digits (take l.c-index l.word);
  fits : l.n < 2 ^ 64;
}
