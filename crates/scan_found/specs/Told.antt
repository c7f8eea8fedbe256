-- What a scan noted of each block, as it lies in the three buffers.
use Rattle.scan_found.specs.Contents.{Contents, contents}
use Rattle.scan_found.specs.declared.contents.Copies.{Copies}

abbrev pub told : Copies → Contents
told c = contents c.kinds.now c.logicals.now c.numbers.now
