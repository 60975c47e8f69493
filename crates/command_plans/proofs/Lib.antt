mod Conclusions
mod Counted
mod Finding
mod Gathering
mod Lines
mod MadeFiles
mod TextsRead
mod There
