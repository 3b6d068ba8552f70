-- Laws of the functions: one for each return, loop turn or requirement that the search over facts does not close by itself.
pub mod CodeLaws
pub mod HeaderLaws
pub mod GateLaws
pub mod SearchLaws
pub mod CheckLaws
pub mod AcceptedLaws
pub mod ArgumentLaws
pub mod ValueLaws
pub mod OutputLaws
pub mod PlainLaws
pub mod RefusalLaws
