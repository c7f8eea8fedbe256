use Rattle.std.proofs.Common.{sym, ap, ◌∙◌}
use Rattle.bench_requests.specs.Requests.{performed}
use Rattle.bench_requests.proofs.EndLaws.{format_is, write_is, read_is, erase_is}
use Rattle.bench_requests.proofs.perform.Goals as goal

pub returns-in-Format : goal.returns-in-Format
returns-in-Format c =
    let store = c.args.store in
    format_is _ store c.format.ensures.geometry_value c.format.ensures.r_value ∙ sym (ap (performed store) c.in-Format.is)

pub returns-in-Write : goal.returns-in-Write
returns-in-Write c =
    let store = c.args.store in
    write_is _ store c.write.ensures.geometry_value _ _ _ c.write.ensures.r_value ∙ sym (ap (performed store) c.in-Write.is)

pub returns-in-Read : goal.returns-in-Read
returns-in-Read c =
    let store = c.args.store in
    read_is _ store c.read.ensures.geometry_value _ _ _ c.read.ensures.page_value ∙ sym (ap (performed store) c.in-Read.is)

pub returns-in-Erase : goal.returns-in-Erase
returns-in-Erase c =
    let store = c.args.store in
    erase_is _ store c.erase.ensures.geometry_value _ c.erase.ensures.r_value ∙ sym (ap (performed store) c.in-Erase.is)
