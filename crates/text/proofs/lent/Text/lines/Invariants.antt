-- Every node before the one that the loop has come to has its line.
use Rattle.std.proofs.Common.{◌≡◌, ◌+◌, ◌*◌, ◌≤◌, length}
use Rattle.rules.specs.Calls.{words as words_of}
use Rattle.text.proofs.NodeLaws.{Going}
use Rattle.text.proofs.lent.Text.lines.Given as goal

abbrev pub invariant-loop-i : goal.invariant-loop-i
invariant-loop-i l = record {
  going : Going (words_of l.bodies) l.left l.i l.place l.initial.self l.self;
  short : l.self.at ≤ l.initial.self.at + 12 * (l.i + l.place);
  within : l.place ≤ length (words_of l.bodies);
  long : length l.self.bytes.now ≡ length l.initial.self.bytes.now;
}
