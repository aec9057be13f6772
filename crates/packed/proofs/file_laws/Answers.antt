use Rattle.std.proofs.Common.{◌+◌, ◌≤◌, ap, arith}
use Rattle.layout.specs.declared.Layout.{Layout}
use Rattle.layout.specs.Layout.{end_of}
use Rattle.component.proofs.Codes.{codes_below}
use Rattle.scan.proofs.Accepts.{accepted_exactly}
use Rattle.packed.proofs.Files.{overlong_by_header, same_fault, same_meaning}
use Rattle.packed.proofs.file_laws.Goals as goal

pub returns : goal.returns
returns c =
    let bs = c.args.bytes.now in
    let known = c.read_layout-layout.ensures in
    let bound : end_of bs ≤ 7012269 = omega (arith, ap (λ (y : Layout). y.text.start + y.text.count) known.value, known.bound) in
    record {
      accepted = accepted_exactly bs;
      codes = codes_below;
      unused = λ cs s. (same_fault bs cs s, same_meaning bs cs s);
      overlong = overlong_by_header bs bound;
    }
