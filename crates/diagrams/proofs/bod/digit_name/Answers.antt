use Rattle.std.proofs.Common.{rules}
use Rattle.std.proofs.Math.Utf8.{encode}
use Rattle.diagrams.proofs.bod.digit_name.Goals as goal

pub returns-in-1 : goal.returns-in-1
returns-in-1 c = unfold encode in search rules

pub returns-in-2 : goal.returns-in-2
returns-in-2 c = unfold encode in search rules

pub returns-in-3 : goal.returns-in-3
returns-in-3 c = unfold encode in search rules

pub returns-in-4 : goal.returns-in-4
returns-in-4 c = unfold encode in search rules

pub returns-in-5 : goal.returns-in-5
returns-in-5 c = unfold encode in search rules

pub returns-in-6 : goal.returns-in-6
returns-in-6 c = unfold encode in search rules

pub returns-in-7 : goal.returns-in-7
returns-in-7 c = unfold encode in search rules

pub returns-in-8 : goal.returns-in-8
returns-in-8 c = unfold encode in search rules

pub returns-in_default : goal.returns-in_default
returns-in_default c = unfold encode in search rules
