mod Files
mod Names
mod Used
